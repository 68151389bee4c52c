-- The bytes behind the last whole word are among the last eight.
use Rattle.std.specs.Prelude.{false}
use Rattle.std.proofs.Common.{sym, ◌∙◌, true}
use Rattle.tables.proofs.Zeros.{in_words, a_word}
use Rattle.tables.proofs.words_clear.Goals as goal

pub returns-then-all_zero_words : goal.returns-then-all_zero_words
returns-then-all_zero_words c =
    rw c.number8.ensures
    (in_words true c.args.bytes.now _ c.as_chunks.ensures.front (a_word _ _ _ c.as_chunks.ensures.front_len c.is_empty.ensures c.if-is_empty.false)
    (sym c.if-all_zero_words.true ∙ c.all_zero_words.ensures))

pub returns-else-all_zero_words : goal.returns-else-all_zero_words
returns-else-all_zero_words c =
    c.if-all_zero_words.false
    ∙ in_words false c.args.bytes.now _ c.as_chunks.ensures.front (a_word _ _ _ c.as_chunks.ensures.front_len c.is_empty.ensures c.if-is_empty.false)
    (sym c.if-all_zero_words.false ∙ c.all_zero_words.ensures)
