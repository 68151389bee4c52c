-- One stretch of a run, and another behind it. Assumes nothing.
use Rattle.std.proofs.Common.{◌≡◌, ℕ, ◌+◌, ◌≤◌, Bool, true, false, List, [], ◌++◌, length, take, drop, refl, sym, ap, ap₂, ◌∙◌, subst, append_assoc, append-nil, arith, take_all, length-append, drop-drop}
use lib.Seq.{take-append-add, drop-append-le}
use Rattle.std.specs.Prelude.{Option}
use Rattle.std.specs.Io.KnownBytes.{Appends}
use Rattle.std.proofs.KnownBytes.{Consumes-nil, Consumes-trans, Appends-nil, Appends-trans}
use Rattle.chunks.proofs.ChunkRuns.{lines_both, behind_both, run_both, answers_both}
use Rattle.chunks.specs.Chunks.{lines_text, line_behind}
use Rattle.laws.proofs.ListLaws.{never}
use Rattle.layout.specs.Layout.{store_of, sound}
use Rattle.metadata.specs.Model.{StoreRows}
use Rattle.metadata.specs.Run.{run, answers}
use Rattle.metadata.specs.declared.Answer.{Answer}
use Rattle.reading.proofs.Places.{chunks_join, stands_inside}
use Rattle.reading.specs.Places.{Stands, none}
use Rattle.streaming.specs.declared.End.{End}
use Rattle.streaming.specs.Stages.{Stage, Advanced, Over, Broken, midway, at_end, AfterBuffer}
use Rattle.streaming.specs.declared.Progress.{Progress}
use Rattle.streaming.specs.declared.Progress.TheVariants as P
use Rattle.input.specs.declared.Buffer.{Buffer}

-- no lines
pub lines_none : (n : ℕ) → lines_text n [] ≡ []
unfolding lines_text
lines_none n = refl

pub behind_none : (n : ℕ) → line_behind n [] ≡ n
unfolding line_behind
behind_none n = refl

-- nothing was run, and all the same `last` written
module _ (a : Stage) (sounds : sound a.store ≡ true) where
  pub advanced_self : Advanced a a [] true
  advanced_self =
      record {
        more = [];
        read = Consumes-nil a.unread;
        commands = [];
        place = 0;
        stand = none;
        behind = append-nil a.unrun;
        ran = refl;
        sounds = sounds;
        numbered = sym (behind_none a.line);
        count = 0;
        wrote = Appends-nil a.output;
        written = λ e. omega (arith, ap length (lines_none a.line));
      }

-- THE LAW THAT JOINS: what was run up to a stage with every line written, and what was run from there on
pub advanced_join : (a b c : Stage) (last : List Answer) (all : Bool) → Advanced a b [] true → Advanced b c last all → Advanced a c last all
advanced_join a b c last all p q =
    let l₁ : List ℕ = a.unrun ++ p.more in
    let h : p.place ≤ length l₁ = stands_inside p.stand (omega arith) in
    let ass : l₁ ++ q.more ≡ a.unrun ++ (p.more ++ q.more) = append_assoc a.unrun p.more q.more in
    let stood : Stands (l₁ ++ q.more) 0 (p.commands ++ q.commands) (p.place + q.place) =
    chunks_join l₁ q.more h p.stand (subst (λ (x : List ℕ). Stands (x ++ q.more) 0 q.commands q.place) (sym p.behind) q.stand) in
    let unrun : drop (p.place + q.place) (l₁ ++ q.more) ≡ c.unrun =
    sym (drop-drop q.place p.place (l₁ ++ q.more)) ∙ ap (drop q.place) (drop-append-le p.place l₁ q.more h ∙ ap (λ (x : List ℕ). x ++ q.more) p.behind) ∙ q.behind in
    let one : List Answer = answers (store_of a.store) p.commands in
    let two : List Answer = answers (store_of b.store) q.commands ++ last in
    let said : one ++ two ≡ answers (store_of a.store) (p.commands ++ q.commands) ++ last =
    sym (append_assoc one (answers (store_of b.store) q.commands) last)
    ∙ ap (λ (x : List Answer). x ++ last) (ap (λ (x : StoreRows). one ++ answers x q.commands) p.ran ∙ sym (answers_both (store_of a.store) p.commands q.commands)) in
    let text : lines_text a.line one ++ lines_text b.line two ≡ lines_text a.line (answers (store_of a.store) (p.commands ++ q.commands) ++ last) =
    ap (λ (x : ℕ). lines_text a.line one ++ lines_text x two) p.numbered ∙ sym (lines_both a.line one two) ∙ ap (lines_text a.line) said in
    let first : take p.count (lines_text a.line (one ++ [])) ≡ lines_text a.line one =
    take_all p.count (lines_text a.line (one ++ [])) (p.written refl) ∙ ap (lines_text a.line) (append-nil one) in
    record {
      more = p.more ++ q.more;
      read = Consumes-trans a.unread b.unread c.unread p.more q.more p.read q.read;
      commands = p.commands ++ q.commands;
      place = p.place + q.place;
      stand = subst (λ (x : List ℕ). Stands x 0 (p.commands ++ q.commands) (p.place + q.place)) ass stood;
      behind = subst (λ (x : List ℕ). drop (p.place + q.place) x ≡ c.unrun) ass unrun;
      ran = q.ran ∙ ap (λ (x : StoreRows). run x q.commands) p.ran ∙ sym (run_both (store_of a.store) p.commands q.commands);
      sounds = q.sounds;
      numbered =
          q.numbered ∙ ap₂ (λ (x : ℕ) (y : StoreRows). line_behind x (answers y q.commands)) p.numbered p.ran ∙ sym (behind_both a.line one (answers (run (store_of a.store) p.commands) q.commands))
          ∙ ap (line_behind a.line) (sym (answers_both (store_of a.store) p.commands q.commands));
      count = length (lines_text a.line one) + q.count;
      wrote =
          subst (Appends a.output c.output)
          (ap (λ (x : List ℕ). x ++ take q.count (lines_text b.line two)) first ∙ sym (take-append-add (lines_text a.line one) (lines_text b.line two) q.count)
          ∙ ap (take (length (lines_text a.line one) + q.count)) text)
          (Appends-trans a.output b.output c.output (take p.count (lines_text a.line (one ++ []))) (take q.count (lines_text b.line two)) p.wrote q.wrote);
      written = λ e. omega (arith, q.written e, ap length text, length-append (lines_text a.line one) (lines_text b.line two));
    }

pub over_join : (a b : Stage) (how : End) (s : List ℕ) (unread output : Option (List ℕ)) (all : Bool) → Advanced a b [] true → Over b how s unread output all → Over a how s unread output all
over_join a b how s unread output all p q =
    record {
      unrun = q.unrun;
      line = q.line;
      advanced = advanced_join a b _ _ all p q.advanced;
      none_whole = q.none_whole;
      ended = q.ended;
      how_ended = q.how_ended;
    }

pub broken_join : (a b : Stage) (s : List ℕ) (unread output : Option (List ℕ)) → Advanced a b [] true → Broken b s unread output → Broken a s unread output
broken_join a b s unread output p (midway unrun line q) = midway unrun line (advanced_join a b _ [] false p q)
broken_join a b s unread output p (at_end how q) = at_end how (over_join a b how s unread output false p q)

-- what was written wholly was written in part
pub weaker : (a b : Stage) (last : List Answer) → Advanced a b last true → Advanced a b last false
weaker a b last p =
    record {
      more = p.more;
      read = p.read;
      commands = p.commands;
      place = p.place;
      stand = p.stand;
      behind = p.behind;
      ran = p.ran;
      sounds = p.sounds;
      numbered = p.numbered;
      count = p.count;
      wrote = p.wrote;
      written = λ e. absurd (never false e refl);
    }

-- a run that stops in the middle
pub advanced_broken : (a : Stage) (unrun : List ℕ) (s : List ℕ) (line : ℕ) (unread output : Option (List ℕ)) → Advanced a (record { unrun = unrun; store = s; line = line; unread = unread; output = output }) [] true → Broken a s unread output
advanced_broken a unrun s line unread output p = midway unrun line (weaker a (record { unrun = unrun; store = s; line = line; unread = unread; output = output }) [] p)

pub after_over : (a b : Stage) (buffer : Buffer) (s : List ℕ) (unread output : Option (List ℕ)) (p : Progress) (how : End) → Advanced a b [] true → AfterBuffer b buffer s unread output p → p ≡ P.Over how → Over a how s unread output true
after_over a b buffer s unread output p how f t e = over_join a b how s unread output true f (subst (AfterBuffer b buffer s unread output) e t)

pub advanced_sound : (a b : Stage) (last : List Answer) (all : Bool) → Advanced a b last all → sound b.store ≡ true
advanced_sound a b last all p = p.sounds

-- for `using` on `run_all`
pub ruleset advancing = (advanced_self, advanced_join, over_join, broken_join, advanced_broken, advanced_sound)
