-- What a step of the code stands for.
use Rattle.std.specs.Prelude.{List, [], ◌∷◌, Option, Some, None, map, option_map}
use Rattle.tree_data.specs.Heads.{heading_of}
use Rattle.tree_data.specs.Seen.{tree_of}
use Rattle.stmt_acts.specs.declared.acts.Act.{Act}
use Rattle.stmt_acts.specs.declared.acts.Act.TheVariants as act
use Rattle.stmt_acts.specs.Acts as spec

abbrev pub act_of : Act → spec.Act
act_of act.Enter = spec.Enter
act_of act.Leave = spec.Leave
act_of (act.Evaluate e) = spec.Evaluate (tree_of e.now)
act_of (act.IfTest k e) = spec.If_test k (tree_of e.now)
act_of (act.LoopTest k e) = spec.Loop_test k (tree_of e.now)
act_of (act.SwitchOn k e) = spec.Switch_on k (tree_of e.now)
act_of act.EndSwitch = spec.End_switch
act_of (act.CaseLabel k e) = spec.Case_label k (tree_of e.now)
act_of (act.DefaultLabel k) = spec.Default_label k
act_of (act.Label n) = spec.Label n
act_of (act.Goto n) = spec.Goto n
act_of (act.Continue k w) = spec.Continue k w
act_of (act.Break k w) = spec.Break k w
act_of (act.Return k e) = spec.Return k (option_map (λ x. tree_of x.now) e)
act_of (act.Declare d) = spec.Declare (heading_of d.now)
act_of (act.DeclareInFor d) = spec.Declare_in_for (heading_of d.now)

abbrev pub acts_of : List Act → List spec.Act
acts_of as' = map act_of as'

-- one, or none
abbrev pub one_of : Option Act → List spec.Act
one_of None = []
one_of (Some a) = act_of a ∷ []
