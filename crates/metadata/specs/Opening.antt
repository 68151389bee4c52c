-- The opening (document 01, "Room and admission"). Assumes nothing.
use Rattle.std.specs.Prelude.{ℕ, cond, List, []}
use Rattle.metadata.specs.Texts.{no_name}
use Rattle.metadata.specs.Marks.{initial_marks, highest}
use Rattle.metadata.specs.Tables.{table_key, sorted}
use Rattle.metadata.specs.Commands.{opening_admitted}
use Rattle.metadata.specs.Model.{StoreRows, Outcome}
use Rattle.metadata.specs.declared.Answer.TheVariants as A
use Rattle.metadata.specs.declared.TableRow.{TableRow}
use Rattle.metadata.specs.declared.MetadataAllocatorState.{MetadataAllocatorState}

abbrev pub highest_table : List TableRow → ℕ → ℕ
highest_table = highest (λ t. t.table_id.0)

-- "The table mark starts at the larger of 1 and the highest table id, the tablet mark at 1, the replica mark at 0"
unfoldable pub starting_marks : List TableRow → ℕ → MetadataAllocatorState
starting_marks tables group =
    let m : MetadataAllocatorState = initial_marks group in
    record m { max_table_id = highest_table tables m.max_table_id }

abbrev pub empty_rows : List TableRow → MetadataAllocatorState → StoreRows
empty_rows tables marks =
    record {
      directory = record { name = no_name; nodes = [] };
      catalog = record { tables = tables; tablets = []; placements = []; retirements = []; marks = marks };
    }

abbrev pub no_marks : MetadataAllocatorState
no_marks = record { max_table_id = 0; max_tablet_id = 0; max_raft_group_id = 0; max_replica_id = 0 }

-- "A refused opening gives an uninitialised store, no tables, all marks zero"
abbrev pub refused_rows : StoreRows
refused_rows = empty_rows [] no_marks

-- any order of the tables is accepted
abbrev pub opened_rows : List TableRow → ℕ → StoreRows
opened_rows tables group = empty_rows (sorted table_key tables) (starting_marks tables group)

-- "10 (the opening's only reason)"
unfoldable pub opening : List TableRow → ℕ → Outcome
opening tables group =
    cond (opening_admitted tables)
    (record { answer = A.Applied; rows = opened_rows tables group })
    (record { answer = A.InvalidCommand 10; rows = refused_rows })
