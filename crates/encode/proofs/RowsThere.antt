-- A record that was read from bytes is written as those bytes, so no two strings of bytes read as one record. Assumes nothing.
use Rattle.std.specs.Prelude.{◌≡◌, ℕ, ◌+◌, ◌≤◌, List, [], ◌∷◌, ◌++◌, eqb, length, take}
use Rattle.std.specs.Int.{w64, to_le_bytes}
use Rattle.std.proofs.Common.{refl, sym, ap, ◌∙◌, arith}
use Rattle.std.proofs.lemmas.List.{take_all}
use Rattle.laws.specs.Bytes.{field_at, number_at, byte_at}
use Rattle.text.specs.Ranges.{Bytes}
use Rattle.metadata.specs.Rooms.{replica_room, name_width, label_width, key_width}
use Rattle.decode.specs.Decode.{table_at, node_at, tablet_at, replica_at, node_id_at, placement_at, retirement_at}
use Rattle.encode.specs.Encode.{text_bytes, table_bytes, node_bytes, tablet_bytes, replica_bytes, node_id_bytes, placement_bytes, retirement_bytes, marks_bytes, marks_at, name_bytes, name_row}
use Rattle.encode.specs.Widths.{table_width, node_width, tablet_width, placement_width, retirement_width, marks_width, name_row_width}
use Rattle.encode.proofs.FieldsThere.{byte_there, number4_there, number8_there, text_there, optional_there, list_there, absent, cons_there}
use Rattle.encode.proofs.Fronts.{three_pieces}

pub table_there : (row : List ℕ) → length row ≡ table_width → Bytes row → table_bytes (table_at row 0) ≡ row
unfolding table_bytes
table_there row h b = number4_there row b 8 _ (omega arith) (number8_there row b 0 [] (omega arith) refl) ∙ take_all table_width row (omega arith)

pub node_there : (row : List ℕ) → length row ≡ node_width → Bytes row → node_bytes (node_at row 0) ≡ row
unfolding node_bytes
node_there row h b =
    let a0 = number8_there row b 0 [] (omega arith) refl in
    let a1 = text_there name_width row 8 _ (omega arith) a0 in
    let a2 = text_there name_width row 57 _ (omega arith) a1 in
    let a3 = text_there name_width row 106 _ (omega arith) a2 in
    let a4 = text_there name_width row 155 _ (omega arith) a3 in
    let a5 = optional_there label_width row 204 _ (omega arith) a4 in
    let a6 = optional_there label_width row 229 _ (omega arith) a5 in
    let a7 = optional_there label_width row 254 _ (omega arith) a6 in
    let a8 = text_there label_width row 279 _ (omega arith) a7 in
    byte_there row 304 _ (omega arith) a8 ∙ take_all node_width row (omega arith)

pub tablet_there : (row : List ℕ) → length row ≡ tablet_width → Bytes row → tablet_bytes (tablet_at row 0) ≡ row
unfolding tablet_bytes
tablet_there row h b =
    let a0 = number8_there row b 0 [] (omega arith) refl in
    let a1 = number8_there row b 8 _ (omega arith) a0 in
    let a2 = number8_there row b 16 _ (omega arith) a1 in
    let a3 = number8_there row b 24 _ (omega arith) a2 in
    let a4 = byte_there row 32 _ (omega arith) a3 in
    let a5 = number4_there row b 33 _ (omega arith) a4 in
    let a6 = number4_there row b 37 _ (omega arith) a5 in
    let a7 = text_there key_width row 41 _ (omega arith) a6 in
    text_there key_width row 74 _ (omega arith) a7 ∙ take_all tablet_width row (omega arith)

replica_there : (row : List ℕ) → Bytes row → (at : ℕ) (x : List ℕ) → at + 17 ≤ length row → x ≡ take at row → x ++ replica_bytes (replica_at row at) ≡ take (at + 17) row
unfolding replica_bytes
replica_there row b at x h e =
    let a0 = number8_there row b at x (omega arith) e in
    let a1 = number8_there row b (at + 8) _ (omega arith) a0 in
    sym (three_pieces x (to_le_bytes w64 (number_at 8 row at)) (to_le_bytes w64 (number_at 8 row (at + 8))) (byte_at row (at + 16) ∷ []))
    ∙ byte_there row (at + 16) _ (omega arith) (a1 ∙ ap (λ (k : ℕ). take k row) (omega arith))
    ∙ ap (λ (k : ℕ). take k row) (omega arith)

pub placement_there : (row : List ℕ) → length row ≡ placement_width → Bytes row → placement_bytes (placement_at row 0) ≡ row
unfolding placement_bytes node_id_bytes
placement_there row h b =
    let a0 = number8_there row b 0 [] (omega arith) refl in
    let a1 = number8_there row b 8 _ (omega arith) a0 in
    let a2 = byte_there row 16 _ (omega arith) a1 in
    let a3 = list_there replica_at replica_bytes 17 row (replica_there row b) replica_room 17 _ (omega arith) a2 in
    let a4 = number4_there row b 136 _ (omega arith) a3 in
    let a5 = number4_there row b 140 _ (omega arith) a4 in
    let a6 = number4_there row b 144 _ (omega arith) a5 in
    let a7 = number4_there row b 148 _ (omega arith) a6 in
    let a8 = optional_there label_width row 152 _ (omega arith) a7 in
    let a9 = byte_there row 177 _ (omega arith) a8 in
    list_there node_id_at node_id_bytes 8 row (number8_there row b) replica_room 178 _ (omega arith) a9 ∙ take_all placement_width row (omega arith)

pub retirement_there : (row : List ℕ) → length row ≡ retirement_width → Bytes row → retirement_bytes (retirement_at row 0) ≡ row
unfolding retirement_bytes
retirement_there row h b =
    let a0 = number8_there row b 0 [] (omega arith) refl in
    let a1 = number8_there row b 8 _ (omega arith) a0 in
    let a2 = number8_there row b 16 _ (omega arith) a1 in
    let a3 = number8_there row b 24 _ (omega arith) a2 in
    let a4 = number8_there row b 32 _ (omega arith) a3 in
    number8_there row b 40 _ (omega arith) a4 ∙ take_all retirement_width row (omega arith)

pub marks_there : (row : List ℕ) → length row ≡ marks_width → Bytes row → marks_bytes (marks_at row) ≡ row
unfolding marks_bytes
marks_there row h b =
    let a0 = number8_there row b 0 [] (omega arith) refl in
    let a1 = number8_there row b 8 _ (omega arith) a0 in
    let a2 = number8_there row b 16 _ (omega arith) a1 in
    number8_there row b 24 _ (omega arith) a2 ∙ take_all marks_width row (omega arith)

pub name_there : (row : List ℕ) → length row ≡ name_row_width → Bytes row → name_bytes (name_row row) ≡ row
unfolding name_bytes text_bytes
name_there row h b =
    absent name_width 0 (byte_at row 0) (field_at name_width row 1) (eqb (byte_at row 0) 0) refl
    ∙ cons_there name_width row 0 [] (omega arith) refl
    ∙ take_all name_row_width row (omega arith)

-- ---- so two that read as one record are the same bytes

-- over any record, of n bytes
tells : {A : Type 0} (f : List ℕ → A) (bytes : A → List ℕ) (n : ℕ) → ((row : List ℕ) → length row ≡ n → Bytes row → bytes (f row) ≡ row) →
    (a b : List ℕ) → length a ≡ n → length b ≡ n → Bytes a → Bytes b → f a ≡ f b → a ≡ b
tells f bytes n there a b k l g h e = sym (there a k g) ∙ ap bytes e ∙ there b l h

pub table_tells : (a b : List ℕ) → length a ≡ table_width → length b ≡ table_width → Bytes a → Bytes b → table_at a 0 ≡ table_at b 0 → a ≡ b
table_tells = tells (λ l. table_at l 0) table_bytes table_width table_there

pub node_tells : (a b : List ℕ) → length a ≡ node_width → length b ≡ node_width → Bytes a → Bytes b → node_at a 0 ≡ node_at b 0 → a ≡ b
node_tells = tells (λ l. node_at l 0) node_bytes node_width node_there

pub tablet_tells : (a b : List ℕ) → length a ≡ tablet_width → length b ≡ tablet_width → Bytes a → Bytes b → tablet_at a 0 ≡ tablet_at b 0 → a ≡ b
tablet_tells = tells (λ l. tablet_at l 0) tablet_bytes tablet_width tablet_there

pub placement_tells : (a b : List ℕ) → length a ≡ placement_width → length b ≡ placement_width → Bytes a → Bytes b → placement_at a 0 ≡ placement_at b 0 → a ≡ b
placement_tells = tells (λ l. placement_at l 0) placement_bytes placement_width placement_there

pub retirement_tells : (a b : List ℕ) → length a ≡ retirement_width → length b ≡ retirement_width → Bytes a → Bytes b → retirement_at a 0 ≡ retirement_at b 0 → a ≡ b
retirement_tells = tells (λ l. retirement_at l 0) retirement_bytes retirement_width retirement_there

pub marks_tells : (a b : List ℕ) → length a ≡ marks_width → length b ≡ marks_width → Bytes a → Bytes b → marks_at a ≡ marks_at b → a ≡ b
marks_tells = tells marks_at marks_bytes marks_width marks_there

pub name_tells : (a b : List ℕ) → length a ≡ name_row_width → length b ≡ name_row_width → Bytes a → Bytes b → name_row a ≡ name_row b → a ≡ b
name_tells = tells name_row name_bytes name_row_width name_there
