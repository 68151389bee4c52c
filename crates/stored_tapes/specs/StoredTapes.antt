-- Tapes that are stored one behind the other. Assumes nothing.
use Rattle.std.specs.Prelude.{ℕ, ◌≡◌, List, [], ◌∷◌, ◌++◌, length, flat_map, codes, Option, None, Some}
use Rattle.std.specs.Io.KnownBytes.{Consumes, Appends, IsAtEnd}
use Rattle.laws.specs.Bytes.{number_at}
use Rattle.stored_tapes.specs.Replays.{replay_text, extent_text}
use Rattle.stored_tapes.specs.declared.Extent.{Extent}
use Rattle.stored_tapes.specs.declared.Extent.TheVariants as X

-- A name and a tape behind a head, which has the length of each in eight bytes, least first.
pub record StoredTape : Type 0 where
  pub head : List ℕ
  pub name : List ℕ
  pub tape : List ℕ
  pub head_length : length head ≡ 16
  pub name_length : length name ≡ number_at 8 head 0
  pub tape_length : length tape ≡ number_at 8 head 8

abbrev pub stored_bytes : StoredTape → List ℕ
stored_bytes t = t.head ++ (t.name ++ t.tape)

-- a name on a line of its own
abbrev pub name_line : List ℕ → List ℕ
name_line name = codes "tape " ++ name ++ 10 ∷ []

abbrev pub printed : StoredTape → List ℕ
printed t = name_line t.name ++ replay_text t.tape

-- the next head was read, or none, where the input was at its end
abbrev pub HeadRead : Option (List ℕ) → Option (List ℕ) → Option (List ℕ) → Type 0
HeadRead unread after None = Consumes unread after [] × IsAtEnd after
HeadRead unread after (Some head) = Consumes unread after head

-- the name and the tape behind a head were read, and it was replayed, or as much of it as there was room for
pub record ExtentReplayed (how : Extent) (head : List ℕ) (unread after output now : Option (List ℕ)) : Type 0 where
  pub stored : StoredTape
  pub same : stored.head ≡ head
  pub read : Consumes unread after (stored.name ++ stored.tape)
  pub wrote : Appends output now (name_line stored.name ++ extent_text how stored.tape)

-- the name and the tape behind a head were read, and all of it was replayed
abbrev pub TapeReplayed : List ℕ → Option (List ℕ) → Option (List ℕ) → Option (List ℕ) → Option (List ℕ) → Type 0
TapeReplayed = ExtentReplayed X.Whole

-- such tapes were read and replayed, one behind the other
pub record Replayed (unread after output now : Option (List ℕ)) : Type 0 where
  pub tapes : List StoredTape
  pub read : Consumes unread after (flat_map stored_bytes tapes)
  pub wrote : Appends output now (flat_map printed tapes)
