-- How many bytes the record of each kind of row has; src/lib.rt names them once more. Assumes nothing.
use Rattle.std.specs.Prelude.{ℕ}

abbrev pub table_width : ℕ
table_width = 12

abbrev pub node_width : ℕ
node_width = 305

abbrev pub tablet_width : ℕ
tablet_width = 107

abbrev pub placement_width : ℕ
placement_width = 234

abbrev pub retirement_width : ℕ
retirement_width = 48

abbrev pub marks_width : ℕ
marks_width = 32

abbrev pub name_row_width : ℕ
name_row_width = 49
