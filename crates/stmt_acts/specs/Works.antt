-- What is left to do: steps, and what gives steps.
use Rattle.std.specs.Prelude.{ℕ, ◌+◌, List, [], ◌∷◌, ◌++◌, reverse}
use Rattle.tree_data.specs.Stated.{stmt_of, items_of, leads_of}
use Rattle.tree_data.specs.Statements as tree
use Rattle.stmt_acts.specs.declared.works.Work.{Work}
use Rattle.stmt_acts.specs.declared.works.Work.TheVariants as work
use Rattle.stmt_acts.specs.declared.works.Works.{Works}
use Rattle.stmt_acts.specs.Acts.{Act}
use Rattle.stmt_acts.specs.Bodies.{statement, items}
use Rattle.stmt_acts.specs.Shown.{act_of}
use Rattle.stmt_acts.specs.Sizes.{stmt_size, items_size, leads_size}

abbrev pub acts_in : Work → List Act
acts_in (work.Done a) = act_of a ∷ []
acts_in (work.Stated w s) = statement w (stmt_of s.now)
acts_in (work.Listed w is) = items w (tree.items (items_of is.now))
acts_in (work.Led w ls s) = statement w (tree.led (leads_of ls.now) (stmt_of s.now))

abbrev pub size_in : Work → ℕ
size_in (work.Done a) = 1
size_in (work.Stated w s) = stmt_size s.now
size_in (work.Listed w is) = 1 + items_size is.now
size_in (work.Led w ls s) = 1 + (leads_size ls.now + stmt_size s.now)

-- of all that is left, what comes next first
abbrev pub all_acts : List Work → List Act
all_acts [] = []
all_acts (w ∷ ws) = acts_in w ++ all_acts ws

abbrev pub all_size : List Work → ℕ
all_size [] = 0
all_size (w ∷ ws) = size_in w + all_size ws

-- the steps that it comes to, and how large it is
unfoldable pub acts_left : Works → List Act
acts_left w = all_acts (reverse w.list.items)

unfoldable pub size_left : Works → ℕ
size_left w = all_size (reverse w.list.items)
