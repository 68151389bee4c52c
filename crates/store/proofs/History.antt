-- A store that lives between calls: whatever the calls are, what they answered and left is what demand 3 says of the commands that they ran, one after the other. Assumes nothing.
use Rattle.std.specs.Prelude.{◌≡◌, ℕ, suc, Bool, true, false, cond, List, [], ◌∷◌, ◌++◌, length, take, eqb, Result}
use Rattle.std.proofs.Common.{refl, sym, ap, ◌∙◌, subst}
use Rattle.std.proofs.lemmas.List.{take_at}
use Rattle.laws.proofs.ListLaws.{cond_true}
use Rattle.layout.specs.Layout.{store_of, sound, Opened}
use Rattle.layout.specs.Places.{store_length}
use Rattle.metadata.proofs.Theorem.{history}
use Rattle.metadata.specs.Answers.{is_applied}
use Rattle.metadata.specs.Claims.{Claims}
use Rattle.metadata.specs.History.{initial_history}
use Rattle.metadata.specs.Model.{StoreRows, Outcome, decide, step}
use Rattle.metadata.specs.Run.{run, answers}
use Rattle.metadata.specs.Opening.{opening}
use Rattle.metadata.specs.declared.Answer.{Answer}
use Rattle.metadata.specs.declared.Answer.TheVariants as A
use Rattle.metadata.specs.declared.Command.{Command}
use Rattle.metadata.specs.declared.TableRow.{TableRow}
use Rattle.reading.proofs.Accepted.{accepted}
use Rattle.reading.specs.Reader.{read_from, tape_answers, tables_of, group_of, open_tape}
use Rattle.store.proofs.Opening.{not_cut}
use Rattle.store.specs.Calls.{Calls, none, many, one}
use Rattle.store.specs.Slices.{refusals, call_answers, fits, OpenOf, ran_by}
use Rattle.store.specs.declared.Fault.{Fault}

-- ---- two lists of commands, one behind the other

run-join : (s : StoreRows) (cs ds : List Command) → run s (cs ++ ds) ≡ run (run s cs) ds
run-join s [] ds = refl
run-join s (c ∷ cs) ds = run-join (step s c).rows cs ds

answers-join : (s : StoreRows) (cs ds : List Command) → answers s (cs ++ ds) ≡ answers s cs ++ answers (run s cs) ds
answers-join s [] ds = refl
answers-join s (c ∷ cs) ds = ap (λ (x : List Answer). (step s c).answer ∷ x) (answers-join (step s c).rows cs ds)

-- ---- the answers of one call

answers-length : (s : StoreRows) (cs : List Command) → length (answers s cs) ≡ length cs
answers-length s [] = refl
answers-length s (c ∷ cs) = ap suc (answers-length (step s c).rows cs)

all_called : (b l : List ℕ) → sound b ≡ true → call_answers b l ≡ tape_answers (store_of b) (read_from l 0)
unfolding call_answers
all_called b l e = cond_true _ (tape_answers (store_of b) (read_from l 0)) (refusals (read_from l 0)) e

-- on a sound block the first are what the definition answers to the commands that it ran
called : (b l out : List ℕ) → sound b ≡ true → take (length (ran_by b l out)) (call_answers b l) ≡ answers (store_of b) (ran_by b l out)
called b l out e = go (read_from l 0).commands (read_from l 0).stop (all_called b l e) (fits (call_answers b l) out)
  where
    go : (cs : List Command) (stop : List Answer) → call_answers b l ≡ answers (store_of b) cs ++ stop → (t : Bool) →
        take (length (cond t cs [])) (call_answers b l) ≡ answers (store_of b) (cond t cs [])
    go cs stop q true = ap (take (length cs)) q ∙ take_at (answers (store_of b) cs) stop (length cs) (answers-length (store_of b) cs)
    go cs stop q false = refl

-- ---- the calls on one block

-- the block was sound: the calls answered what the definition answers, and left the rows that it leaves
pub record Ran (b : List ℕ) (cs : List Command) (rs : List Answer) (b' : List ℕ) : Type 0 where
  pub answered : rs ≡ answers (store_of b) cs
  pub rows : store_of b' ≡ run (store_of b) cs
  pub sounds : sound b' ≡ true

pub calls_run : {b b' : List ℕ} {cs : List Command} {rs : List Answer} → sound b ≡ true → Calls b cs rs b' → Ran b cs rs b'
calls_run e none = record { answered = refl; rows = refl; sounds = e }
calls_run {b} e (many {l = l} {out = out} {cs = cs} {rs = rs} h k) =
    let r = calls_run (h.sounds e) k in
    let ds : List Command = ran_by b l out in
    record {
      answered = ap (λ (x : List Answer). x ++ rs) (called b l out e) ∙ ap (λ (x : List Answer). answers (store_of b) ds ++ x) (r.answered ∙ ap (λ (s : StoreRows). answers s cs) (h.rows e)) ∙ sym (answers-join (store_of b) ds cs);
      rows = r.rows ∙ ap (λ (s : StoreRows). run s cs) (h.rows e) ∙ sym (run-join (store_of b) ds cs);
      sounds = r.sounds;
    }
calls_run {b} e (one {c = c} {a = a} {cs = cs} {rs = rs} h k) =
    let r = calls_run (h.sounds e) k in
    let q : a ≡ decide (store_of b) c = h.answer ∙ cond_true _ (decide (store_of b) c) (A.InvalidCommand 12) e in
    record {
      answered =
          ap (λ (x : Answer). x ∷ rs) q
          ∙ ap (λ (x : List Answer). decide (store_of b) c ∷ x) (r.answered ∙ ap (λ (s : StoreRows). answers s cs) (h.rows e));
      rows = r.rows ∙ ap (λ (s : StoreRows). run s cs) (h.rows e);
      sounds = r.sounds;
    }

-- demand 3 for a store that lives between calls: from every accepted opening, whatever the calls
pub calls_history : (tables : List TableRow) (group : ℕ) {b b' : List ℕ} {cs : List Command} {rs : List Answer} → is_applied (opening tables group).answer ≡ true →
    Opened (opening tables group) (opening tables group).answer b → Calls b cs rs b' → Claims (initial_history tables group) cs rs (store_of b')
calls_history tables group {b} {b'} {cs} {rs} e o k =
    let r = calls_run o.sounds k in
    subst (λ (s : StoreRows). Claims (initial_history tables group) cs rs s) (sym (r.rows ∙ ap (λ (s : StoreRows). run s cs) o.rows))
    (subst (λ (x : List Answer). Claims (initial_history tables group) cs x (run (opening tables group).rows cs)) (sym (r.answered ∙ ap (λ (s : StoreRows). answers s cs) o.rows))
    (history tables group cs e))

-- and from an opening in bytes
pub opened_history : (l : List ℕ) {b₀ b b' : List ℕ} {r : Result Answer Fault} {cs : List Command} {rs : List Answer} → OpenOf b₀ l r b → eqb (length b₀) store_length ≡ true →
    is_applied (open_tape l).answer ≡ true → Calls b cs rs b' → Claims (initial_history (tables_of l) (group_of l)) cs rs (store_of b')
opened_history l {b = b} h f e k =
    let q : opening (tables_of l) (group_of l) ≡ open_tape l = accepted l e in
    calls_history (tables_of l) (group_of l) (ap (λ (o : Outcome). is_applied o.answer) q ∙ e)
    (subst (λ (o : Outcome). Opened o o.answer b) (sym q) (h.opened f (not_cut l e))) k
