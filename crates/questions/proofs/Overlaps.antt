-- The start that `overlap_start` gives is the least key that lies in both ranges; where it gives none for a row that is there, no key lies in both. Assumes nothing.
use Rattle.std.specs.Prelude.{◌≡◌, ℕ, Bool, true, false, cond, ◌&&◌, List, [], ◌∷◌, Some, None, get_or}
use Rattle.std.proofs.Common.{refl, sym, ap, ◌∙◌, subst, true≢false}
use Rattle.std.proofs.lemmas.Option.{cond_some, none-some}
use Rattle.laws.specs.Keyed.{has, Rising}
use Rattle.laws.specs.Lists.{All}
use Rattle.laws.proofs.KeyedLaws.{found}
use Rattle.laws.proofs.ListLaws.{and_right, and_i}
use Rattle.metadata.specs.Claims.{lies_in}
use Rattle.metadata.specs.Answers.{◌⊳◌, and_then, answer_if, each, reported, is_applied}
use Rattle.metadata.specs.Tables.{tablet_key, tablet_of, blank_tablet}
use Rattle.metadata.specs.Tablets.{is_range, in_table, partitions_overlap, overlap_at, judge_range}
use Rattle.metadata.specs.Texts.{key_text}
use Rattle.metadata.specs.declared.Answer.{Answer}
use Rattle.metadata.specs.declared.Answer.TheVariants as A
use Rattle.metadata.specs.declared.TabletDescriptor.{TabletDescriptor}
use Rattle.metadata.specs.declared.TabletId.{TabletId}
use Rattle.questions.specs.Lookups.{overlaps_row, later_row, OverlapStart}
use Rattle.text.specs.Ranges.{lex_leb, admittedb}
use Rattle.text.proofs.Ranges.{later_shared, later_least, no_key}

-- reason 6 does not apply to the range of the tablet
abbrev pub range_fits : TabletDescriptor → Bool
range_fits t = admittedb (key_text t.partition.start_key) (key_text t.partition.end_key)

module _ (t : TabletDescriptor) (tablets : List TabletDescriptor) (id : ℕ) where
  -- the row under the id
  abbrev old : TabletDescriptor
  old = tablet_of id tablets

  -- it lies in both
  pub start_in_both : (k : List ℕ) → OverlapStart t tablets id (Some k) → range_fits t ≡ true → range_fits old ≡ true
      → (lies_in k t ≡ true) × (lies_in k old ≡ true)
  start_in_both k o a b =
      let c = cond_some _ (later_row t tablets id) k (sym o) in
      let s = later_shared (key_text t.partition.start_key) (key_text t.partition.end_key) (key_text old.partition.start_key) (key_text old.partition.end_key)
      a b (and_right (has tablet_key id tablets) _ c.0) in
      (subst (λ (x : List ℕ). lies_in x t ≡ true) c.1 s.0, subst (λ (x : List ℕ). lies_in x old ≡ true) c.1 s.1)

  -- and no key that does is below it
  pub start_is_least : (k key : List ℕ) → OverlapStart t tablets id (Some k) → lies_in key t ≡ true → lies_in key old ≡ true → lex_leb k key ≡ true
  start_is_least k key o p q =
      let c = cond_some _ (later_row t tablets id) k (sym o) in
      subst (λ (x : List ℕ). lex_leb x key ≡ true) c.1 (
      later_least (key_text t.partition.start_key) (key_text t.partition.end_key) (key_text old.partition.start_key) (key_text old.partition.end_key) key p q
      )

  none_in_both : (b : Bool) → None ≡ cond b (Some (later_row t tablets id)) None → b ≡ false
  none_in_both true o = absurd (none-some _ o)
  none_in_both false o = refl

  -- none for a row that is there: no key lies in both
  pub no_start : (key : List ℕ) → OverlapStart t tablets id None → has tablet_key id tablets ≡ true → lies_in key t ≡ true → lies_in key old ≡ true → ⊥
  no_start key o h p q =
      no_key (key_text t.partition.start_key) (key_text t.partition.end_key) (key_text old.partition.start_key) (key_text old.partition.end_key)
      key (apart (has tablet_key id tablets) h (none_in_both _ o)) p q
    where
      apart : (b : Bool) → b ≡ true → (b && partitions_overlap t.partition old.partition) ≡ false → partitions_overlap t.partition old.partition ≡ false
      apart b e g = subst (λ (c : Bool). (c && partitions_overlap t.partition old.partition) ≡ false) e g

-- who is answered 24 with an id, on rows that rise by id, finds a start under it
module _ (t : TabletDescriptor) (tablets : List TabletDescriptor) (id : TabletId) where
  -- the row is the one that stands under its id
  abbrev Found : TabletDescriptor → Type 0
  Found x = (has tablet_key x.tablet_id.0 tablets ≡ true) × (tablet_of x.tablet_id.0 tablets ≡ x)

  -- the test of 24 on one row
  abbrev clashes : TabletDescriptor → Bool
  clashes x = is_range x && (in_table t.table_id x && partitions_overlap t.partition x.partition)

  clash_row : (x : TabletDescriptor) → Found x → clashes x ≡ true → x.tablet_id.0 ≡ id.0 → overlaps_row t tablets id.0 ≡ true
  clash_row x f c e =
      subst (λ (i : ℕ). overlaps_row t tablets i ≡ true) e (
      and_i (has tablet_key x.tablet_id.0 tablets) _ f.0 (
      ap (λ (y : TabletDescriptor). partitions_overlap t.partition y.partition) f.1
      ∙ and_right (in_table t.table_id x) _ (and_right (is_range x) _ c)
      )
      )

  -- the first operand of an answer
  abbrev named : Answer → ℕ
  named a = get_or (reported a).operands 0 0

  clash_go : (x : TabletDescriptor) (rest : Answer) → Found x → (rest ≡ A.RangeOverlap id → overlaps_row t tablets id.0 ≡ true)
      → (b : Bool) → clashes x ≡ b → (answer_if b (A.RangeOverlap x.tablet_id) ⊳ rest) ≡ A.RangeOverlap id → overlaps_row t tablets id.0 ≡ true
  unfolding and_then answer_if
  clash_go x rest f later true c e = clash_row x f c (ap named e)
  clash_go x rest f later false c e = later e

  clash_in : (l : List TabletDescriptor) → All Found l → each (overlap_at t) l ≡ A.RangeOverlap id → overlaps_row t tablets id.0 ≡ true
  unfolding each
  clash_in [] a e = absurd (true≢false (ap is_applied e))
  clash_in (x ∷ l) a e = clash_go x (each (overlap_at t) l) a.0 (clash_in l a.1) (clashes x) refl e

  pub refused_overlaps : Rising tablet_key tablets → judge_range tablets t ≡ A.RangeOverlap id → overlaps_row t tablets id.0 ≡ true
  unfolding judge_range
  refused_overlaps r e = clash_in tablets (found tablet_key blank_tablet tablets r) e
