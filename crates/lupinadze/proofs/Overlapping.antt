-- From which key on two ranges overlap, as it is given. Assumes nothing.
use Rattle.std.specs.Prelude.{◌≡◌, ℕ, ◌≤◌, Bool, true, false, cond, List, length, Option, Some, None}
use Rattle.std.proofs.Common.{refl, sym, ap, ◌∙◌, le-leb}
use Rattle.std.proofs.lemmas.Option.{cond_some, none-some}
use Rattle.decode.specs.Decode.{tablet_at}
use Rattle.encode.specs.Widths.{tablet_width}
use Rattle.laws.proofs.ListLaws.{never}
use Rattle.lupinadze.specs.Asked.{overlap_said, OverlapGiven}
use Rattle.lupinadze.specs.Given.{Said, said, given_count, given_list, none}
use Rattle.metadata.specs.declared.TabletDescriptor.{TabletDescriptor}
use Rattle.questions.specs.Lookups.{overlaps_row, later_row, OverlapStart}

module _ (is_store : Bool) (tablets : List TabletDescriptor) (id : ℕ) (other out : List ℕ) (t : TabletDescriptor) (q : t ≡ tablet_at other 0)
    (long : tablet_width ≤ length other) (e : is_store ≡ true) where
  -- what there is to say is given
  given : {o : Option (Said ℕ)} {r : ℕ} {out' : List ℕ} → overlap_said t tablets id ≡ o → r ≡ given_count o out → out' ≡ given_list o out
      → OverlapGiven is_store tablets id other out r out'
  given {o} {r} {out'} f g h =
      let k : overlap_said (tablet_at other 0) tablets id ≡ o = ap (λ (x : TabletDescriptor). overlap_said x tablets id) (sym q) ∙ f in
      record {
        given = λ l. record { result = rw (e, k) g; list = rw (e, k) h };
        too_short = λ l. absurd (never _ (le-leb tablet_width (length other) long) l);
      }

  -- they overlap
  pub from_key : {k : List ℕ} {r : ℕ} {out' : List ℕ} → OverlapStart t tablets id (Some k) → r ≡ given_count (Some (said k)) out
      → out' ≡ given_list (Some (said k)) out → OverlapGiven is_store tablets id other out r out'
  from_key {k} o g h =
      let c = cond_some _ (later_row t tablets id) k (sym o) in
      let f : overlap_said t tablets id ≡ Some (said k) = rw c.0 (ap (λ (x : List ℕ). Some (said x)) c.1) in
      given f g h

  -- they do not, or there is no such row
  pub from_none : OverlapStart t tablets id None → OverlapGiven is_store tablets id other out none out
  from_none o = given (go (overlaps_row t tablets id) o) refl refl
    where
      go : (b : Bool) → None ≡ cond b (Some (later_row t tablets id)) None → cond b (Some (said (later_row t tablets id))) None ≡ None
      go true x = absurd (none-some _ x)
      go false x = refl
