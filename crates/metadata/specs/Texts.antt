-- Names, labels and keys: the texts of document 01 at their widths. Assumes nothing.
use Rattle.std.specs.Prelude.{ℕ, Bool, false, List, []}
use Rattle.text.specs.Texts as T
use Rattle.text.specs.declared.Text.{Text}
use Rattle.text.specs.declared.Optional.{Optional}
use Rattle.metadata.specs.Rooms.{name_width, label_width, key_width}

-- ---- document 01's names for texts of three widths, a line each that cites the general one

-- "Endpoints and cluster name: 1 to 48 bytes"
abbrev pub Name : Type 0
Name = Text name_width

-- "Labels (region, zone, rack) and storage class: at most 24"
abbrev pub Label : Type 0
Label = Text label_width

-- "Keys: at most 32"
abbrev pub Key : Type 0
Key = Text key_width

abbrev pub OptionalName : Type 0
OptionalName = Optional name_width

abbrev pub OptionalLabel : Type 0
OptionalLabel = Optional label_width

-- the bytes of a key, and when two texts are the same
abbrev pub key_text : Key → List ℕ
key_text t = T.text_of t

abbrev pub same_name : Name → Name → Bool
same_name a b = T.same a b

abbrev pub same_label : Label → Label → Bool
same_label a b = T.same a b

abbrev pub same_key : Key → Key → Bool
same_key a b = T.same a b

-- "A present label of length 0 is a label and differs from absent"
abbrev pub same_optional : OptionalLabel → OptionalLabel → Bool
same_optional a b = T.same_optional a b

-- ---- what is admitted of each, and when each fits its width: names, a line each

-- "endpoint bytes outside 0x21 to 0x7E"
abbrev pub endpoint_admitted : Name → Bool
endpoint_admitted t = T.text_admitted 1 name_width 33 126 t.len t.bytes

-- "other text outside 0x20 to 0x7E"
abbrev pub name_admitted : Name → Bool
name_admitted t = T.text_admitted 1 name_width 32 126 t.len t.bytes

abbrev pub label_admitted : Label → Bool
label_admitted t = T.text_admitted 0 label_width 32 126 t.len t.bytes

-- "Keys take all byte values"
abbrev pub key_admitted : Key → Bool
key_admitted t = T.text_admitted 0 key_width 0 255 t.len t.bytes

-- within the width with padding zero; of an absent text the whole field is padding
abbrev pub label_fits : Label → Bool
label_fits t = T.fits label_width t.len t.bytes

abbrev pub name_fits : Name → Bool
name_fits t = T.fits name_width t.len t.bytes

abbrev pub key_fits : Key → Bool
key_fits t = T.fits key_width t.len t.bytes

abbrev pub optional_fits : OptionalLabel → Bool
optional_fits t = T.optional_fits t

abbrev pub optional_name_fits : OptionalName → Bool
optional_name_fits t = T.optional_fits t

abbrev pub optional_admitted : OptionalLabel → Bool
optional_admitted t = T.optional_admitted 0 32 126 t

-- ---- nothing
-- the zeros and the blank of each width: names, a line each

abbrev pub zero_key : Key
zero_key = T.zero_text

abbrev pub no_name : OptionalName
no_name = T.no_text

abbrev pub no_label : OptionalLabel
no_label = T.no_text

-- what is read past an array's end: numbers 0 and no bytes
abbrev pub blank_name : Name
blank_name = record { len = 0; bytes = [] }

abbrev pub blank_label : Label
blank_label = record { len = 0; bytes = [] }

abbrev pub blank_key : Key
blank_key = record { len = 0; bytes = [] }

abbrev pub blank_optional : OptionalLabel
blank_optional = record { present = false; text = blank_label }
