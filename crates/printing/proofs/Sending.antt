-- A text that is sent in several writes. Assumes nothing.
use Rattle.std.proofs.Common.{◌≡◌, ℕ, ◌+◌, ◌-◌, ◌≤◌, List, ◌++◌, length, take, drop, sym, ap, ◌∙◌, subst, true≢false, arith, append_assoc, take-add, take_all, length-append, length-drop}
use Rattle.std.specs.Prelude.{Option, Result, Ok, Err, IsErr, OnOk}
use Rattle.std.specs.Io.KnownBytes.{Keeps, Appends}
use Rattle.std.proofs.KnownBytes.{Appends-nil, Appends-trans, Appends-kept}
use Rattle.std.proofs.Math.Seq.{take-append-add}
use Rattle.std.proofs.lemmas.List.{take-append-le}
use Rattle.printing.specs.Sent.{Sent}

-- what is said of a success, of a failure
of_failure : {V E : Type 0} (r : Result V E) (P : Type 0) → IsErr r → OnOk r P
of_failure (Ok y) P e = absurd (true≢false (sym e))
of_failure (Err y) P e = tt

-- the first `done` bytes were written
pub record Sending (old new : Option (List ℕ)) (text : List ℕ) (done : ℕ) : Type 0 where
  pub within : done ≤ length text
  pub wrote : Appends old new (take done text)

pub send_start : (old : Option (List ℕ)) (text : List ℕ) → Sending old old text 0
send_start old text = record { within = omega arith; wrote = Appends-nil old }

module _ (old new : Option (List ℕ)) (text : List ℕ) (done : ℕ) (s : Sending old new text done) where
  pub send_next : (next : Option (List ℕ)) (put : ℕ) → put ≤ length (take (length text - done) (drop done text)) → Appends new next (take put (take (length text - done) (drop done text))) →
      Sending old next text (done + put)
  send_next next put h a =
      let rest : take (length text - done) (drop done text) ≡ drop done text = take_all (length text - done) (drop done text) (omega (arith, length-drop done text)) in
      record {
        within = omega (arith, length-drop done text, s.within, ap length rest);
        wrote =
            subst (Appends old next) (ap (λ (x : List ℕ). take done text ++ take put x) rest ∙ sym (take-add done put text))
            (Appends-trans old new next (take done text) (take put (take (length text - done) (drop done text))) s.wrote a);
      }

  pub send_ended : {V E : Type 0} (v : V) → length text ≤ done → Sent {V = V} {E = E} old new text (Ok v)
  send_ended v h = record { count = done; within = s.within; wrote = s.wrote; all = omega (arith, s.within) }

  pub send_failed : {V E : Type 0} (r : Result V E) (next : Option (List ℕ)) → IsErr r → Keeps new next → Sent old next text r
  send_failed r next f k = record { count = done; within = s.within; wrote = Appends-kept old new next (take done text) s.wrote k; all = of_failure r _ f }

-- a text was sent, and a beginning of another behind it: a beginning of both, whatever is behind them
pub sent_behind : {V E V' E' V'' E'' : Type 0} {old mid new : Option (List ℕ)} (a b rest : List ℕ) {v : V} {r : Result V' E'} → Sent {E = E} old mid a (Ok v) → Sent mid new b r
    → (r' : Result V'' E'') → IsErr r' → Sent old new ((a ++ b) ++ rest) r'
sent_behind {old = old} {mid = mid} {new = new} a b rest s t r' f =
    let whole : take s.count a ≡ a = take_all s.count a (omega (arith, s.all)) in
    let joined : take (length a + t.count) ((a ++ b) ++ rest) ≡ a ++ take t.count b =
    ap (take (length a + t.count)) (append_assoc a b rest) ∙ take-append-add a (b ++ rest) t.count ∙ ap (λ x. a ++ x) (take-append-le t.count b rest t.within) in
    record {
      count = length a + t.count;
      within = omega (arith, t.within, length-append (a ++ b) rest, length-append a b);
      wrote = subst (Appends old new) (sym joined) (Appends-trans old mid new a (take t.count b) (subst (Appends old mid) whole s.wrote) t.wrote);
      all = of_failure r' _ f;
    }

-- for `using` on `emit`: what its steps ask for
pub ruleset sending = (send_start, send_next, send_ended, send_failed)
