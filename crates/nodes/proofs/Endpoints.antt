-- The search for a clash of endpoints: over the new node's fields, and over the rows of the nodes. Assumes nothing.
use Rattle.std.specs.Prelude.{◌≡◌, ℕ, ◌+◌, ◌<◌, ◌≤◌, Bool, List, [], Option, Some, None, map, length, get_or, drop}
use Rattle.std.proofs.Common.{rules, refl, sym, ap, ◌∙◌, arith, add-one}
use Rattle.std.proofs.lemmas.List.{get_or-map}
use lib.ListN.{drop_of_length-le, length-map}
use lib.Seq.{drop-cons}
use Rattle.laws.specs.Bytes.{eq_bytes}
use Rattle.laws.specs.Rows.{find_index}
use Rattle.laws.proofs.Through.{find_map}
use Rattle.metadata.specs.Nodes.{clash_fields, clash}
use Rattle.metadata.specs.Tables.{endpoints}
use Rattle.metadata.specs.Texts.{Name, same_name, blank_name}
use Rattle.metadata.specs.declared.Clash.{Clash}
use Rattle.metadata.specs.declared.NodeDescriptor.{NodeDescriptor}
use Rattle.metadata.specs.declared.NodeId.{NodeId}
use Rattle.text.specs.Texts.{same_text, text_of}

-- the new node's fields before j clash with none of the existing node's: v reads the bytes of the new one's, xs, and of the existing one's, existing
pub record Fields {B : Type 0} (v : B → List ℕ) (old new : NodeDescriptor) (existing xs : List B) (j : ℕ) : Type 0 where
  pub reads : map v xs ≡ map text_of (endpoints new)
  pub holds : map v existing ≡ map text_of (endpoints old)
  pub left : clash_fields old 0 (endpoints new) ≡ clash_fields old j (drop j (endpoints new))

module _ {B : Type 0} {v : B → List ℕ} {old new : NodeDescriptor} {existing xs : List B} where
  pub fields_start : map v xs ≡ map text_of (endpoints new) → map v existing ≡ map text_of (endpoints old) → Fields v old new existing xs 0
  fields_start e h = record { reads = e; holds = h; left = refl }

  four : {j : ℕ} → Fields v old new existing xs j → length xs ≡ 4
  four s = sym (length-map xs v) ∙ ap length s.reads

  pub fields_end : {j : ℕ} → Fields v old new existing xs j → 4 ≤ j → clash_fields old 0 (endpoints new) ≡ None
  unfolding clash_fields
  fields_end {j} s h = s.left ∙ rw (drop_of_length-le (endpoints new) {i = j} h)

  -- the field at hand clashes with none, or with field k of the existing node
  module _ {j : ℕ} (d : B) (s : Fields v old new existing xs j) (h : j < 4) where
    abbrev field : Name
    field = get_or (endpoints new) j blank_name

    bytes_are : v (get_or xs j d) ≡ text_of field
    bytes_are =
        sym (get_or-map v xs j d [] (omega (arith, four s)))
        ∙ ap (λ (l : List (List ℕ)). get_or l j []) s.reads
        ∙ get_or-map text_of (endpoints new) j blank_name [] h

    -- names are the same where their bytes are
    own : {o : Option ℕ} → find_index (λ e. eq_bytes (v e) (v (get_or xs j d))) existing ≡ o → find_index (λ e. same_name e field) (endpoints old) ≡ o
    unfolding same_text
    own e =
        let p : List ℕ → Bool = λ b. eq_bytes b (text_of field) in
        find_map text_of p (endpoints old) ∙ ap (find_index p) (sym s.holds) ∙ sym (find_map v p existing) ∙ (rw bytes_are at e)

    pub fields_next : find_index (λ e. eq_bytes (v e) (v (get_or xs j d))) existing ≡ None → Fields v old new existing xs (j + 1)
    unfolding clash_fields
    fields_next e = record { reads = s.reads; holds = s.holds; left = s.left ∙ rw (drop-cons (endpoints new) j blank_name h, own e, add-one) }

    pub fields_stop : (id : NodeId) (k : ℕ) → find_index (λ e. eq_bytes (v e) (v (get_or xs j d))) existing ≡ Some k → id ≡ old.node_id
        → clash_fields old 0 (endpoints new) ≡ Some (record { node_id = id; field = j; existing_field = k })
    unfolding clash_fields
    fields_stop id k e n = s.left ∙ rw (drop-cons (endpoints new) j blank_name h, own e, n)

-- the rows before i clash in no field; r reads a row
pub record Rows {A : Type 0} (r : A → NodeDescriptor) (new : NodeDescriptor) (rows : List A) (i : ℕ) (found : Option Clash) : Type 0 where
  pub left : clash new (map r rows) ≡ clash new (map r (drop i rows))
  pub none : found ≡ None

module _ {A : Type 0} {r : A → NodeDescriptor} {new : NodeDescriptor} {rows : List A} where
  pub rows_start : Rows r new rows 0 None
  rows_start = record { left = refl; none = refl }

  pub rows_end : {i : ℕ} {found : Option Clash} → Rows r new rows i found → length rows ≤ i → found ≡ clash new (map r rows)
  unfolding clash
  rows_end {i} s h = s.none ∙ sym (s.left ∙ rw (drop_of_length-le rows {i = i} h))

  -- the row at hand clashes in no field, or in one
  module _ {i : ℕ} {found : Option Clash} (d : A) (s : Rows r new rows i found) (h : i < length rows) where
    pub rows_next : (f : Option Clash) → f ≡ None → clash_fields (r (get_or rows i d)) 0 (endpoints new) ≡ None → Rows r new rows (i + 1) f
    unfolding clash
    rows_next f n e = record { left = s.left ∙ rw (drop-cons rows i d h, e, add-one); none = n }

    pub rows_stop : (c : Clash) → clash_fields (r (get_or rows i d)) 0 (endpoints new) ≡ Some c → Some c ≡ clash new (map r rows)
    unfolding clash
    rows_stop c e = sym (s.left ∙ rw (drop-cons rows i d h, e))

-- for `using` on `clash`: where its two loops begin, and the way out without a clash
pub ruleset searching = (fields_start, rows_start, rows_end, rules)
