-- Demand 3 in one theorem, `history`: every list of commands, from every accepted opening with any group mark. Assumes nothing.
use Prim.Native.Nat.{ℕ, ◌+◌}
use native.Mathlib.Omega.{arith}
use mathlib.Core.Path.{◌≡◌, refl, ap, ◌∙◌, subst}
use mathlib.Core.Bool.{Bool, true, false, cond}
use mathlib.Core.List.{List, [], ◌∷◌}
use Rattle.laws.specs.Keyed.{has}
use Rattle.laws.specs.Lists.{Apart}
use Rattle.laws.proofs.ListLaws.{never, all_map}
use Rattle.laws.proofs.KeyedLaws.{found}
use Rattle.metadata.specs.Answers.{is_applied}
use Rattle.metadata.specs.Tables.{placement_key, placement_of, blank_placement}
use Rattle.metadata.specs.Commands.{Command, opening_admitted}
use Rattle.metadata.specs.Model.{StoreRows, Outcome, decide, apply, step}
use Rattle.metadata.specs.Run.{run, answers}
use Rattle.metadata.specs.Sound.{sound_rows}
use Rattle.metadata.specs.Opening.{opened_rows, opening}
use Rattle.metadata.specs.History.{History, initial_history, after, replay, placement_count, applied_placements}
use Rattle.metadata.specs.Claims.{Holds, Disjoint, Claims}
use Rattle.metadata.specs.declared.Answer.{Answer}
use Rattle.metadata.specs.declared.Answer.TheVariants as A
use Rattle.metadata.specs.declared.DesiredReplicaPlacement.{DesiredReplicaPlacement}
use Rattle.metadata.specs.declared.TableRow.{TableRow}
use Rattle.metadata.proofs.Soundness as soundness
use Rattle.metadata.proofs.Links as links
use Rattle.metadata.proofs.Copies as copies
use Rattle.metadata.proofs.Unretired as unretired
use Rattle.metadata.proofs.Disjoint as disjoint
use Rattle.metadata.proofs.Epochs.{epoch_of, counts}
use Rattle.metadata.proofs.SoundRows.{rows_true, rows_pass}
use Rattle.metadata.proofs.Agreement.{as_history, agrees}
use Rattle.metadata.proofs.Opened.{rows-sound, opened_agrees}

-- ---- what every reached store has: a part for each property. A new command is a clause in each part, a new property a part

pub record Good (s : StoreRows) : Type 0 where
  pub sound : soundness.RowsSound s
  pub links : links.Links s.catalog
  pub copies : copies.Copies s.directory.nodes s.catalog.placements
  pub unretired : unretired.NoneRetired s.catalog
  pub ranges : Apart Disjoint s.catalog.tablets

pub good_next : (s : StoreRows) (c : Command) → Good s → is_applied (decide s c) ≡ true → Good (apply s c)
good_next s c g e =
    record {
      sound = soundness.preserved s c g.sound e;
      links = links.preserved s c g.links e;
      copies = copies.preserved s c g.sound g.links g.copies e;
      unretired = unretired.preserved s c g.sound g.links g.unretired e;
      ranges = disjoint.preserved s c g.ranges e;
    }

-- ---- one step

step-sound_go : (s : StoreRows) (c : Command) (t : Bool) → is_applied (decide s c) ≡ t → sound_rows s ≡ true → sound_rows (cond t (apply s c) s) ≡ true
step-sound_go s c true e h = rows_pass (apply s c) (soundness.preserved s c (rows_true s h) e)
step-sound_go s c false e h = h

-- every step keeps soundness
pub step-sound : (s : StoreRows) (c : Command) → sound_rows s ≡ true → sound_rows (step s c).rows ≡ true
step-sound s c h = step-sound_go s c (is_applied (decide s c)) refl h

-- a refused command changes nothing
pub refused : (s : StoreRows) (c : Command) → is_applied (step s c).answer ≡ false → (step s c).rows ≡ s
refused s c h = rw h

-- rows that are good, and are the history's
record Agrees (s : StoreRows) (h : History) : Type 0 where
  good : Good s
  rows : as_history s ≡ h

agrees_go : (s : StoreRows) (h : History) (c : Command) (t : Bool) → is_applied (decide s c) ≡ t → Agrees s h → Agrees (cond t (apply s c) s) (cond t (after h c) h)
agrees_go s h c true e k = record { good = good_next s c k.good e; rows = agrees s c k.good.sound e ∙ ap (λ (x : History). after x c) k.rows }
agrees_go s h c false e k = k

agrees_next : (s : StoreRows) (h : History) (c : Command) → Agrees s h → Agrees (step s c).rows (cond (is_applied (step s c).answer) (after h c) h)
agrees_next s h c k = agrees_go s h c (is_applied (decide s c)) refl k

epochs_go : (i : ℕ) (s : StoreRows) (c : Command) (t : Bool) → is_applied (decide s c) ≡ t → epoch_of i (cond t (apply s c) s) ≡ epoch_of i s + cond t (placement_count i c) 0
epochs_go i s c true e = counts i s c e
epochs_go i s c false e = omega arith

epochs_next : (i : ℕ) (s : StoreRows) (c : Command) → epoch_of i (step s c).rows ≡ epoch_of i s + cond (is_applied (step s c).answer) (placement_count i c) 0
epochs_next i s c = epochs_go i s c (is_applied (decide s c)) refl

-- ---- every list

agrees_run : (s : StoreRows) (h : History) (cs : List Command) → Agrees s h → Agrees (run s cs) (replay h cs (answers s cs))
agrees_run s h [] k = k
agrees_run s h (c ∷ cs) k = agrees_run (step s c).rows (cond (is_applied (step s c).answer) (after h c) h) cs (agrees_next s h c k)

epochs-run : (i : ℕ) (s : StoreRows) (cs : List Command) → epoch_of i (run s cs) ≡ epoch_of i s + applied_placements i cs (answers s cs)
epochs-run i s [] = omega arith
epochs-run i s (c ∷ cs) = omega (arith, epochs-run i (step s c).rows cs, epochs_next i s c)

holds : (s : StoreRows) (h : History) → as_history s ≡ h → Holds s h
holds s h e =
    record {
      name = ap (λ (x : History). x.name) e;
      nodes = ap (λ (x : History). x.nodes) e;
      tables = ap (λ (x : History). x.tables) e;
      tablets = ap (λ (x : History). x.tablets) e;
      placements = ap (λ (x : History). x.placements) e;
      retirements = ap (λ (x : History). x.retirements) e;
      marks = ap (λ (x : History). x.marks) e;
    }

-- from any good rows with no placement
claims : (s : StoreRows) (h : History) (cs : List Command) → Agrees s h → ((i : ℕ) → epoch_of i s ≡ 0) → Claims h cs (answers s cs) (run s cs)
unfolding copies.Copies unretired.NoneRetired
claims s h cs k z =
    let e = agrees_run s h cs k in
    let ps : List DesiredReplicaPlacement = (run s cs).catalog.placements in
    record {
      rows = holds (run s cs) (replay h cs (answers s cs)) e.rows;
      sound = rows_pass (run s cs) e.good.sound;
      epochs =
          all_map ps
          (λ (p : DesiredReplicaPlacement) (f : (has placement_key p.tablet_id.0 ps ≡ true) × (placement_of p.tablet_id.0 ps ≡ p)).
          omega (
            arith,
            ap (λ (x : DesiredReplicaPlacement). x.configuration_epoch) f.1,
            epochs-run p.tablet_id.0 s cs,
            z p.tablet_id.0,
          ))
          (found placement_key blank_placement ps e.good.sound.catalog.placements);
      placed = e.good.links.known;
      copies = e.good.copies;
      unretired = unretired.history_unretired (run s cs) (replay h cs (answers s cs)) e.rows e.good.unretired;
      ranges = e.good.ranges;
    }

opened_good : (tables : List TableRow) (group : ℕ) → opening_admitted tables ≡ true → Good (opened_rows tables group)
unfolding copies.Copies unretired.NoneRetired
opened_good tables group e = record { sound = rows-sound tables group e; links = record { known = tt; groups = tt }; copies = tt; unretired = tt; ranges = tt }

opened_good_agrees : (tables : List TableRow) (group : ℕ) → opening_admitted tables ≡ true → Agrees (opened_rows tables group) (initial_history tables group)
opened_good_agrees tables group e = record { good = opened_good tables group e; rows = opened_agrees tables group }

abbrev outcome : Answer → StoreRows → Outcome
outcome a s = record { answer = a; rows = s }

opening_go : (s : StoreRows) (t : Bool) (b : StoreRows) → is_applied (cond t (outcome A.Applied s) (outcome (A.InvalidCommand 10) b)).answer ≡ true →
    (t ≡ true) × (s ≡ (cond t (outcome A.Applied s) (outcome (A.InvalidCommand 10) b)).rows)
opening_go s true b e = (refl, refl)
opening_go s false b e = absurd (never false e refl)

-- Demand 3: from every accepted opening, with any table list and group mark, every list of commands
pub history : (tables : List TableRow) (group : ℕ) (cs : List Command) → is_applied (opening tables group).answer ≡ true →
    Claims (initial_history tables group) cs (answers (opening tables group).rows cs) (run (opening tables group).rows cs)
unfolding opening copies.Copies
history tables group cs e =
    let g = opening_go (opened_rows tables group) (opening_admitted tables) _ e in
    subst (λ (s : StoreRows). Claims (initial_history tables group) cs (answers s cs) (run s cs)) g.1
    (claims (opened_rows tables group) (initial_history tables group) cs (opened_good_agrees tables group g.0) (λ i. refl))
