-- A list of commands on a store. Assumes nothing.
use Rattle.std.specs.Prelude.{List, [], ◌∷◌}
use Rattle.metadata.specs.Commands.{Command}
use Rattle.metadata.specs.Model.{StoreRows, step}
use Rattle.metadata.specs.declared.Answer.{Answer}

-- the rows that the commands leave: each is given those that the one before it left
abbrev pub run : StoreRows → List Command → StoreRows
run s [] = s
run s (c ∷ cs) = run (step s c).rows cs

-- what the commands are answered
abbrev pub answers : StoreRows → List Command → List Answer
answers s [] = []
answers s (c ∷ cs) = (step s c).answer ∷ answers (step s c).rows cs
