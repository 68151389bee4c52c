use Rattle.std.proofs.Common.{refl, sym, ◌∙◌, true, false}
use Rattle.tables.proofs.Zeros.{in_blocks}
use Rattle.tables.proofs.is_clear.Goals as goal

pub returns-then-all_zero_blocks : goal.returns-then-all_zero_blocks
returns-then-all_zero_blocks c =
    in_blocks true _ c.args.bytes.now _ _ c.as_chunks.ensures.front c.as_chunks.ensures.back (sym c.if-all_zero_blocks.true ∙ c.all_zero_blocks.ensures) c.words_clear.ensures

pub returns-else-all_zero_blocks : goal.returns-else-all_zero_blocks
returns-else-all_zero_blocks c =
    c.if-all_zero_blocks.false
    ∙ in_blocks false _ c.args.bytes.now _ _ c.as_chunks.ensures.front c.as_chunks.ensures.back (sym c.if-all_zero_blocks.false ∙ c.all_zero_blocks.ensures) refl
