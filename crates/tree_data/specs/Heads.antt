-- What a head of the code stands for.
use Rattle.std.specs.Prelude.{List, Option, Some, None, map, option_map}
use Rattle.tree_data.specs.declared.heads.Head.{Head}
use Rattle.tree_data.specs.declared.inits.Init.{Init}
use Rattle.tree_data.specs.declared.members.Assertion.{Assertion}
use Rattle.tree_data.specs.declared.types.Declarator.{Declarator}
use Rattle.tree_data.specs.Seen.{specs_of, declarator_of, initial_of, assertion_of}
use Rattle.tree_data.specs.Trees.{Declaring, Initial, Heading, Declares_of, Asserts_of}

abbrev pub declared_one : Declarator × Option Init → Declaring × Option Initial
declared_one d = (declarator_of d.0, option_map initial_of d.1)

abbrev pub declared_of : List (Declarator × Option Init) → List (Declaring × Option Initial)
declared_of ds = map declared_one ds

abbrev pub head_by : Head → Option Assertion → Heading
head_by h None = Declares_of (specs_of h.specs) (declared_of h.declarators.items) h.has_body
head_by h (Some a) = Asserts_of (assertion_of a)

abbrev pub heading_of : Head → Heading
heading_of h = head_by h h.assertion
