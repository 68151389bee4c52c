-- A record that is written from front to back: each piece stands behind the front before it. Assumes nothing.
use Rattle.std.specs.Prelude.{◌≡◌, ℕ, zero, suc, ◌+◌, ◌*◌, ◌<◌, List, [], ◌∷◌, ◌++◌, length, get_or, take}
use Rattle.std.specs.Int.{w64, to_le_bytes}
use Rattle.std.specs.List.{flat_map}
use Rattle.std.proofs.Common.{add-one, refl, sym, ap, ◌∙◌, arith}
use Rattle.std.proofs.lemmas.List.{append_assoc, append-nil, take_all, take_more, flat_map_more}
use Rattle.std.proofs.Math.Nat.{mul-suc}
use Rattle.laws.specs.Lists.{All}
use Rattle.metadata.specs.declared.DesiredReplica.{DesiredReplica}
use Rattle.encode.specs.Encode.{replica_bytes}

-- a record of n bytes is its first n
pub whole_row : (n : ℕ) (row x : List ℕ) → length row ≡ n → take n row ≡ x → row ≡ x
whole_row n row x h e = sym (take_all n row (omega arith)) ∙ e

-- three pieces behind a front
pub three_pieces : (x p q r : List ℕ) → x ++ p ++ q ++ r ≡ x ++ (p ++ q ++ r)
three_pieces x p q r = simp append_assoc

-- a front with a piece behind it, where the front before is known
pub behind : (z x y p : List ℕ) → z ≡ x ++ p → x ≡ y → z ≡ y ++ p
behind z x y p e f = e ∙ ap (λ (w : List ℕ). w ++ p) f

-- a replica written behind a front, piece by piece
pub replica_front : (at : ℕ) (old one two new : List ℕ) (r : DesiredReplica) →
    take (at + 8) one ≡ take at old ++ to_le_bytes w64 r.replica_id.0 →
    take (at + 8 + 8) two ≡ take (at + 8) one ++ to_le_bytes w64 r.node_id.0 →
    take (at + 16 + 1) new ≡ take (at + 16) two ++ r.role ∷ [] →
    take (at + 17) new ≡ take at old ++ replica_bytes r
unfolding replica_bytes
replica_front at old one two new r e f g =
    let middle : at + 16 ≡ at + 8 + 8 = omega arith in
    let end : at + 17 ≡ at + 16 + 1 = omega arith in
    let both = behind (take (at + 8 + 8) two) _ _ (to_le_bytes w64 r.node_id.0) f e in
    ap (λ (k : ℕ). take k new) end
    ∙ behind _ _ _ (r.role ∷ []) g (ap (λ (k : ℕ). take k two) middle ∙ both)
    ∙ three_pieces (take at old) (to_le_bytes w64 r.replica_id.0) (to_le_bytes w64 r.node_id.0) (r.role ∷ [])

-- ---- records of one size written one behind the other: the first i of xs stand behind what stood before the place

pub record Written {A : Type 0} (bytes : A → List ℕ) (Typed : A → Type 0) (size at : ℕ) (old new : List ℕ) (xs : List A) (i : ℕ) : Type 0 where
  pub front : take (at + size * i) new ≡ take at old ++ flat_map bytes (take i xs)
  pub long : length new ≡ length old
  pub typed : All Typed (take i xs)

all_more : {A : Type 0} (P : A → Type 0) (xs : List A) (i : ℕ) (d : A) → i < length xs → All P (take i xs) → P (get_or xs i d) → All P (take (suc i) xs)
all_more P [] i d h a p = absurd (omega arith)
all_more P (x ∷ xs) zero d h a p = (p, tt)
all_more P (x ∷ xs) (suc i) d h a p = (a.0, all_more P xs i d (omega arith) a.1 p)

module _ {A : Type 0} {bytes : A → List ℕ} {Typed : A → Type 0} {size at : ℕ} {old : List ℕ} {xs : List A} where
  pub written_start : Written bytes Typed size at old old xs 0
  written_start = record { front = ap (λ (k : ℕ). take k old) (omega arith) ∙ sym (append-nil (take at old)); long = refl; typed = tt }

  pub written_next : {new new' : List ℕ} {i : ℕ} (d : A) → Written bytes Typed size at old new xs i → i < length xs →
      take (at + size * i + size) new' ≡ take (at + size * i) new ++ bytes (get_or xs i d) → length new' ≡ length new → Typed (get_or xs i d) →
      Written bytes Typed size at old new' xs (i + 1)
  written_next {new} {new'} {i} d l h e k p =
      record {
        front = ap (λ (k : ℕ). take k new') (rw (add-one, mul-suc) (omega arith)) ∙ e ∙ ap (λ (y : List ℕ). y ++ bytes (get_or xs i d)) l.front
            ∙ flat_map_more bytes (take at old) (take i xs) (get_or xs i d) ∙ ap (λ (y : List A). take at old ++ flat_map bytes y) (sym (take_more xs i d h));
        long = k ∙ l.long;
        typed = rw add-one (all_more Typed xs i d h l.typed p);
      }

pub ruleset written_rules = (written_start, written_next)
