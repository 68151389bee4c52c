-- Open without it: behind the last line there is none, and the block has the bytes of the memory.
use Rattle.std.specs.Prelude.{ℕ, ◌≤◌, [], List, length, get_or}
use Rattle.std.proofs.Common.{arith, ap, sym, ◌∙◌, subst, ltb-false}
use Rattle.std.proofs.lemmas.List.{get_or_past}
use Rattle.dump.specs.Dump.{dump_lines}
use Rattle.layout.specs.Layout.{store_of}
use Rattle.lupinadze.proofs.dumped.lupinadze_dump.Goals as goal

pub returns-then-not-put_line_at-clause-within : goal.returns-then-not-put_line_at-clause-within
returns-then-not-put_line_at-clause-within c = λ h.
    let lines = dump_lines (store_of c.in-Ok.block.now) in
    let past = ltb-false c.args.line (length lines) (sym c.put_line_at.ensures.there ∙ c.if-not-put_line_at.true) in
    let none = get_or_past lines c.args.line [] (omega (arith, past)) in
    subst (λ (b : List ℕ). length (get_or (dump_lines (store_of b)) c.args.line []) ≤ 811) c.in-Ok.ensures.1.same (omega (arith, ap length none))
