-- A record is the same at two places of two lists where the same bytes stand. Assumes nothing.
use Prim.Native.Nat.{ℕ, zero, suc, ◌+◌, ◌*◌, ◌-◌, ◌≤◌, ◌<◌}
use native.Mathlib.Omega.{arith}
use mathlib.Core.Path.{◌≡◌, refl, sym, ap, ap₂, ◌∙◌}
use mathlib.Core.Bool.{true, false, cond}
use mathlib.Core.List.{List, ◌∷◌}
use lib.Dec.{eqb}
use lib.ListN.{take, drop, get_or}
use lib.Seq.{take-take, drop-drop, get_or-take, get_or-drop}
use Rattle.std.proofs.lemmas.List.{drop-take}
use Rattle.std.proofs.Math.Nat.{mul-suc}
use Rattle.laws.specs.Bytes.{little, field_at, number_at, byte_at}
use Rattle.text.specs.declared.Text.{Text}
use Rattle.text.specs.declared.Optional.{Optional}
use Rattle.metadata.specs.Rooms.{replica_room}
use Rattle.decode.specs.Decode.{text_at, optional_text_at, node_at, tablet_at, replica_at, list_at, node_id_at, placement_at, retirement_at, table_at}

-- the `size` bytes from a place of one list on are those from a place of the other on
module _ (size : ℕ) (l : List ℕ) (p : ℕ) (m : List ℕ) (q : ℕ) (same : take size (drop p l) ≡ take size (drop q m)) where
  -- i and j are k further on
  pub byte_same : (i j k : ℕ) → i ≡ p + k → j ≡ q + k → k < size → byte_at l i ≡ byte_at m j
  byte_same i j k e f h =
      ap (byte_at l) e ∙ sym (get_or-drop p l k 0) ∙ sym (get_or-take size (drop p l) k 0 h) ∙ ap (λ (x : List ℕ). get_or x k 0) same
      ∙ get_or-take size (drop q m) k 0 h ∙ get_or-drop q m k 0 ∙ sym (ap (byte_at m) f)

  pub field_same : (n i j k : ℕ) → i ≡ p + k → j ≡ q + k → k + n ≤ size → field_at n l i ≡ field_at n m j
  field_same n i j k e f h =
      ap (field_at n l) e ∙ field_part l p ∙ ap (λ (x : List ℕ). take n (drop k x)) same ∙ sym (field_part m q) ∙ sym (ap (field_at n m) f)
    where
      field_part : (x : List ℕ) (a : ℕ) → field_at n x (a + k) ≡ take n (drop k (take size (drop a x)))
      field_part x a =
          ap (take n) (sym (drop-drop k a x)) ∙ sym (take-take n (size - k) (drop k (drop a x)) (omega arith))
          ∙ ap (take n) (sym (drop-take k (size - k) (drop a x)) ∙ ap (λ (w : ℕ). drop k (take w (drop a x))) (omega arith))

  pub number_same : (n i j k : ℕ) → i ≡ p + k → j ≡ q + k → k + n ≤ size → number_at n l i ≡ number_at n m j
  number_same n i j k e f h = ap little (field_same n i j k e f h)

  pub text_same : {n : ℕ} (i j k : ℕ) → i ≡ p + k → j ≡ q + k → k + (n + 1) ≤ size → ◌≡◌ {A = Text n} (text_at l i) (text_at m j)
  text_same {n} i j k e f h =
      ap₂ (λ (x : ℕ) (y : List ℕ). record { len = x; bytes = y }) (byte_same i j k e f (omega arith)) (field_same n (i + 1) (j + 1) (k + 1) (omega arith) (omega arith) (omega arith))

  pub optional_same : {n : ℕ} (i j k : ℕ) → i ≡ p + k → j ≡ q + k → k + (n + 1) ≤ size → ◌≡◌ {A = Optional n} (optional_text_at l i) (optional_text_at m j)
  optional_same {n} i j k e f h =
      ap₂ (λ (x : ℕ) (y : List ℕ). cond (eqb x 255) (record { present = false; text = record { len = 0; bytes = y } }) (record { present = true; text = record { len = x; bytes = y } }))
      (byte_same i j k e f (omega arith)) (field_same n (i + 1) (j + 1) (k + 1) (omega arith) (omega arith) (omega arith))

  pub list_same : {A : Type 0} (f : List ℕ → ℕ → A) (step : ℕ) → ((i j k : ℕ) → i ≡ p + k → j ≡ q + k → k + step ≤ size → f l i ≡ f m j) →
      (n i j k : ℕ) → i ≡ p + k → j ≡ q + k → k + step * n ≤ size → list_at f step n l i ≡ list_at f step n m j
  list_same f step law zero i j k e g h = refl
  list_same {A} f step law (suc n) i j k e g h =
      let room : step * suc n ≡ step + step * n = mul-suc step n ∙ omega arith in
      ap₂ (λ (x : A) (xs : List A). x ∷ xs) (law i j k e g (omega (arith, room)))
      (list_same f step law n (i + step) (j + step) (k + step) (omega arith) (omega arith) (omega (arith, room)))

  node_id_same : (i j k : ℕ) → i ≡ p + k → j ≡ q + k → k + 8 ≤ size → node_id_at l i ≡ node_id_at m j
  node_id_same i j k e f h = ap (λ (x : ℕ). record { 0 = x }) (number_same 8 i j k e f h)

  replica_same : (i j k : ℕ) → i ≡ p + k → j ≡ q + k → k + 17 ≤ size → replica_at l i ≡ replica_at m j
  replica_same i j k e f h =
      let a : number_at 8 l i ≡ number_at 8 m j = number_same 8 i j k e f (omega arith) in
      let b : number_at 8 l (i + 8) ≡ number_at 8 m (j + 8) = number_same 8 (i + 8) (j + 8) (k + 8) (omega arith) (omega arith) (omega arith) in
      let c : byte_at l (i + 16) ≡ byte_at m (j + 16) = byte_same (i + 16) (j + 16) (k + 16) (omega arith) (omega arith) (omega arith) in
      rw (a, b, c)

  pub table_same : (i j k : ℕ) → i ≡ p + k → j ≡ q + k → k + 12 ≤ size → table_at l i ≡ table_at m j
  table_same i j k e f h =
      let a : number_at 8 l i ≡ number_at 8 m j = number_same 8 i j k e f (omega arith) in
      let b : number_at 4 l (i + 8) ≡ number_at 4 m (j + 8) = number_same 4 (i + 8) (j + 8) (k + 8) (omega arith) (omega arith) (omega arith) in
      rw (a, b)

-- each record from the first of those bytes on
module _ (l : List ℕ) (p : ℕ) (m : List ℕ) (q : ℕ) where
  pub node_same : take 305 (drop p l) ≡ take 305 (drop q m) → node_at l p ≡ node_at m q
  node_same same =
      let id : number_at 8 l p ≡ number_at 8 m q = number_same 305 l p m q same 8 p q 0 (omega arith) (omega arith) (omega arith) in
      let raft : ◌≡◌ {A = Text 48} (text_at l (p + 8)) (text_at m (q + 8)) = text_same 305 l p m q same (p + 8) (q + 8) 8 refl refl (omega arith) in
      let snapshot : ◌≡◌ {A = Text 48} (text_at l (p + 57)) (text_at m (q + 57)) = text_same 305 l p m q same (p + 57) (q + 57) 57 refl refl (omega arith) in
      let sql : ◌≡◌ {A = Text 48} (text_at l (p + 106)) (text_at m (q + 106)) = text_same 305 l p m q same (p + 106) (q + 106) 106 refl refl (omega arith) in
      let admin : ◌≡◌ {A = Text 48} (text_at l (p + 155)) (text_at m (q + 155)) = text_same 305 l p m q same (p + 155) (q + 155) 155 refl refl (omega arith) in
      let region : ◌≡◌ {A = Optional 24} (optional_text_at l (p + 204)) (optional_text_at m (q + 204)) = optional_same 305 l p m q same (p + 204) (q + 204) 204 refl refl (omega arith) in
      let zone : ◌≡◌ {A = Optional 24} (optional_text_at l (p + 229)) (optional_text_at m (q + 229)) = optional_same 305 l p m q same (p + 229) (q + 229) 229 refl refl (omega arith) in
      let rack : ◌≡◌ {A = Optional 24} (optional_text_at l (p + 254)) (optional_text_at m (q + 254)) = optional_same 305 l p m q same (p + 254) (q + 254) 254 refl refl (omega arith) in
      let class : ◌≡◌ {A = Text 24} (text_at l (p + 279)) (text_at m (q + 279)) = text_same 305 l p m q same (p + 279) (q + 279) 279 refl refl (omega arith) in
      let lifecycle : byte_at l (p + 304) ≡ byte_at m (q + 304) = byte_same 305 l p m q same (p + 304) (q + 304) 304 refl refl (omega arith) in
      cc

  pub tablet_same : take 107 (drop p l) ≡ take 107 (drop q m) → tablet_at l p ≡ tablet_at m q
  tablet_same same =
      let id : number_at 8 l p ≡ number_at 8 m q = number_same 107 l p m q same 8 p q 0 (omega arith) (omega arith) (omega arith) in
      let table : number_at 8 l (p + 8) ≡ number_at 8 m (q + 8) = number_same 107 l p m q same 8 (p + 8) (q + 8) 8 refl refl (omega arith) in
      let group : number_at 8 l (p + 16) ≡ number_at 8 m (q + 16) = number_same 107 l p m q same 8 (p + 16) (q + 16) 16 refl refl (omega arith) in
      let epoch : number_at 8 l (p + 24) ≡ number_at 8 m (q + 24) = number_same 107 l p m q same 8 (p + 24) (q + 24) 24 refl refl (omega arith) in
      let kind : byte_at l (p + 32) ≡ byte_at m (q + 32) = byte_same 107 l p m q same (p + 32) (q + 32) 32 refl refl (omega arith) in
      let bucket : number_at 4 l (p + 33) ≡ number_at 4 m (q + 33) = number_same 107 l p m q same 4 (p + 33) (q + 33) 33 refl refl (omega arith) in
      let count : number_at 4 l (p + 37) ≡ number_at 4 m (q + 37) = number_same 107 l p m q same 4 (p + 37) (q + 37) 37 refl refl (omega arith) in
      let start : ◌≡◌ {A = Text 32} (text_at l (p + 41)) (text_at m (q + 41)) = text_same 107 l p m q same (p + 41) (q + 41) 41 refl refl (omega arith) in
      let end : ◌≡◌ {A = Text 32} (text_at l (p + 74)) (text_at m (q + 74)) = text_same 107 l p m q same (p + 74) (q + 74) 74 refl refl (omega arith) in
      cc

  pub placement_same : take 234 (drop p l) ≡ take 234 (drop q m) → placement_at l p ≡ placement_at m q
  placement_same same =
      let id : number_at 8 l p ≡ number_at 8 m q = number_same 234 l p m q same 8 p q 0 (omega arith) (omega arith) (omega arith) in
      let epoch : number_at 8 l (p + 8) ≡ number_at 8 m (q + 8) = number_same 234 l p m q same 8 (p + 8) (q + 8) 8 refl refl (omega arith) in
      let count : byte_at l (p + 16) ≡ byte_at m (q + 16) = byte_same 234 l p m q same (p + 16) (q + 16) 16 refl refl (omega arith) in
      let replicas : list_at replica_at 17 replica_room l (p + 17) ≡ list_at replica_at 17 replica_room m (q + 17) =
      list_same 234 l p m q same replica_at 17 (replica_same 234 l p m q same) replica_room (p + 17) (q + 17) 17 refl refl (omega arith) in
      let factor : number_at 4 l (p + 136) ≡ number_at 4 m (q + 136) = number_same 234 l p m q same 4 (p + 136) (q + 136) 136 refl refl (omega arith) in
      let regions : number_at 4 l (p + 140) ≡ number_at 4 m (q + 140) = number_same 234 l p m q same 4 (p + 140) (q + 140) 140 refl refl (omega arith) in
      let zones : number_at 4 l (p + 144) ≡ number_at 4 m (q + 144) = number_same 234 l p m q same 4 (p + 144) (q + 144) 144 refl refl (omega arith) in
      let racks : number_at 4 l (p + 148) ≡ number_at 4 m (q + 148) = number_same 234 l p m q same 4 (p + 148) (q + 148) 148 refl refl (omega arith) in
      let class : ◌≡◌ {A = Optional 24} (optional_text_at l (p + 152)) (optional_text_at m (q + 152)) = optional_same 234 l p m q same (p + 152) (q + 152) 152 refl refl (omega arith) in
      let leaders : byte_at l (p + 177) ≡ byte_at m (q + 177) = byte_same 234 l p m q same (p + 177) (q + 177) 177 refl refl (omega arith) in
      let nodes : list_at node_id_at 8 replica_room l (p + 178) ≡ list_at node_id_at 8 replica_room m (q + 178) =
      list_same 234 l p m q same node_id_at 8 (node_id_same 234 l p m q same) replica_room (p + 178) (q + 178) 178 refl refl (omega arith) in
      cc

  pub retirement_same : take 48 (drop p l) ≡ take 48 (drop q m) → retirement_at l p ≡ retirement_at m q
  retirement_same same =
      let group : number_at 8 l p ≡ number_at 8 m q = number_same 48 l p m q same 8 p q 0 (omega arith) (omega arith) (omega arith) in
      let replica : number_at 8 l (p + 8) ≡ number_at 8 m (q + 8) = number_same 48 l p m q same 8 (p + 8) (q + 8) 8 refl refl (omega arith) in
      let epoch : number_at 8 l (p + 16) ≡ number_at 8 m (q + 16) = number_same 48 l p m q same 8 (p + 16) (q + 16) 16 refl refl (omega arith) in
      let version : number_at 8 l (p + 24) ≡ number_at 8 m (q + 24) = number_same 48 l p m q same 8 (p + 24) (q + 24) 24 refl refl (omega arith) in
      let index : number_at 8 l (p + 32) ≡ number_at 8 m (q + 32) = number_same 48 l p m q same 8 (p + 32) (q + 32) 32 refl refl (omega arith) in
      let term : number_at 8 l (p + 40) ≡ number_at 8 m (q + 40) = number_same 48 l p m q same 8 (p + 40) (q + 40) 40 refl refl (omega arith) in
      cc
