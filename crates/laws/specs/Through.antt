-- Rows of one type by a key of another. Assumes nothing.
use Rattle.laws.specs.Keyed.{Keyed}

-- rows by the key of what f reads from them
abbrev pub through : {A B : Type 0} → (B → A) → Keyed A → Keyed B
through f T =
    record {
      Key = T.Key;
      key = λ b. T.key (f b);
      eq = T.eq;
      lt = T.lt;
      eq_true = T.eq_true;
      eq-same = T.eq-same;
      lt_self = T.lt_self;
      lt_trans = T.lt_trans;
      lt_else = T.lt_else;
    }
