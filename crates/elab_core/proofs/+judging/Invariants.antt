use Rattle.std.proofs.Common.{◌≡◌, [], drop}
use Rattle.asking.specs.LookUps.{run_by}
use Rattle.tree_data.specs.Seen.{associations_of, choices_of, derivings_of, designators_of, enumerators_of, fields_of, lefts_of, members_of, operands_of, parameter_row_of, pieces_of, prefixes_of, specifiers_of, suffixes_of}
use Rattle.tree_data.specs.Trees as trees
use Rattle.tree_data.specs.Trees.{behinds, None_behind, fronts, None_before, specifyings, No_specifiers, No_derivings, No_more}
use Rattle.elab_state.specs.Seen.{context_of, told_of}
use Rattle.elab_core.specs.Specifiers.{nothing}
use Rattle.elab_state.specs.Wants.{answered}
use Rattle.elab_core.specs.Entries.{stacked}
use Rattle.elab_core.specs.Expressions.{arguments, associations, derivings, designators_in, enumerators, fields, go_on, members, pieces_in, specifiers, steps_to}
use Rattle.elab_core.specs.Waits.{awaits}
use Rattle.elab_core.proofs.+judging.Given as goal

abbrev pub invariant-postfix::operands-operands : goal.invariant-postfix::operands-operands
invariant-postfix::operands-operands l =
    run_by (answered (told_of l.around)) (go_on (context_of l.around) l.place (behinds (operands_of (drop l.pair-index l.pair-items)) None_behind) l.left l.made)
    ≡ run_by (answered (told_of l.around)) (go_on (context_of l.around) l.place (behinds (operands_of l.more.items) None_behind) l.fn.first l.fn.made)

abbrev pub invariant-postfix::arguments-arguments : goal.invariant-postfix::arguments-arguments
invariant-postfix::arguments-arguments l =
    run_by (answered (told_of l.around)) (arguments (context_of l.around) l.place (behinds (operands_of (drop l.pair-index l.pair-items)) None_behind) l.parts l.made)
    ≡ run_by (answered (told_of l.around)) (arguments (context_of l.around) l.place (behinds (operands_of l.more.items) None_behind) l.fn.parts l.fn.made)

abbrev pub invariant-postfix::suffixes-suffixes : goal.invariant-postfix::suffixes-suffixes
invariant-postfix::suffixes-suffixes l =
    run_by (answered (told_of l.around)) (go_on (context_of l.around) l.place (behinds (suffixes_of (drop l.next-index l.next-items)) None_behind) l.operand l.made)
    ≡ run_by (answered (told_of l.around)) (go_on (context_of l.around) l.place (behinds (suffixes_of l.more.items) None_behind) l.fn.first l.fn.made)

abbrev pub invariant-unary::prefixes_wait-prefixes : goal.invariant-unary::prefixes_wait-prefixes
invariant-unary::prefixes_wait-prefixes l =
    run_by (answered (told_of l.around)) (awaits (context_of l.around) l.place (fronts (prefixes_of (drop l.next-index l.next-items)) None_before) l.waiting l.made)
    ≡ run_by (answered (told_of l.around)) (awaits (context_of l.around) l.fn.place (fronts (prefixes_of l.prefixes.items) None_before) [] l.fn.made)

abbrev pub invariant-unary::choices_wait-choices : goal.invariant-unary::choices_wait-choices
invariant-unary::choices_wait-choices l =
    run_by (answered (told_of l.around)) (awaits (context_of l.around) l.place (fronts (choices_of (drop l.next-index l.next-items)) None_before) l.waiting l.made)
    ≡ run_by (answered (told_of l.around)) (awaits (context_of l.around) l.place (fronts (choices_of l.choices.items) None_before) [] l.fn.made)

abbrev pub invariant-unary::places_wait-places : goal.invariant-unary::places_wait-places
invariant-unary::places_wait-places l =
    run_by (answered (told_of l.around)) (awaits (context_of l.around) l.place (fronts (lefts_of (drop l.pair-index l.pair-items)) None_before) l.waiting l.made)
    ≡ run_by (answered (told_of l.around)) (awaits (context_of l.around) l.place (fronts (lefts_of l.places.items) None_before) [] l.fn.made)

abbrev pub invariant-generics::associations-associations : goal.invariant-generics::associations-associations
invariant-generics::associations-associations l =
    run_by (answered (told_of l.around)) (associations (context_of l.around) l.place (trees.associations (associations_of (drop l.pair-index l.pair-items))) l.choices l.made)
    ≡ run_by (answered (told_of l.around)) (associations (context_of l.around) l.place (trees.associations (associations_of l.list.items)) l.fn.choices l.fn.made)

abbrev pub invariant-offsets::steps_to-steps : goal.invariant-offsets::steps_to-steps
invariant-offsets::steps_to-steps l =
    run_by (answered (told_of l.around)) (steps_to (context_of l.around) l.place (behinds (suffixes_of (drop l.next-index l.next-items)) None_behind) l.way l.made)
    ≡ run_by (answered (told_of l.around)) (steps_to (context_of l.around) l.place (behinds (suffixes_of l.list.items) None_behind) l.fn.way l.fn.made)

abbrev pub invariant-braces::designators-designators : goal.invariant-braces::designators-designators
invariant-braces::designators-designators l =
    run_by (answered (told_of l.around)) (designators_in (context_of l.around) l.place (trees.designators (designators_of (drop l.next-index l.next-items))) l.filling l.made)
    ≡ run_by (answered (told_of l.around)) (designators_in (context_of l.around) l.place (trees.designators (designators_of l.list.items)) l.fn.filling l.fn.made)

abbrev pub invariant-braces::pieces-pieces : goal.invariant-braces::pieces-pieces
invariant-braces::pieces-pieces l =
    run_by (answered (told_of l.around)) (pieces_in (context_of l.around) l.place (trees.pieces (pieces_of (drop l.pair-index l.pair-items))) l.filling l.made)
    ≡ run_by (answered (told_of l.around)) (pieces_in (context_of l.around) l.place (trees.pieces (pieces_of l.list.items)) l.fn.filling l.fn.made)

abbrev pub invariant-naming::specified-specifiers : goal.invariant-naming::specified-specifiers
invariant-naming::specified-specifiers l =
    run_by (answered (told_of l.around)) (specifiers (context_of l.around) l.place (specifyings (specifiers_of (drop l.next-index l.next-items)) No_specifiers) l.gathered l.made)
    ≡ run_by (answered (told_of l.around)) (specifiers (context_of l.around) l.place (specifyings (specifiers_of l.list.items) No_specifiers) nothing l.fn.made)

abbrev pub invariant-naming::derivings-derivings : goal.invariant-naming::derivings-derivings
invariant-naming::derivings-derivings l =
    run_by (answered (told_of l.around)) (derivings (context_of l.around) l.place (trees.derivings (derivings_of (drop l.next-index l.next-items)) No_derivings) l.steps l.made)
    ≡ run_by (answered (told_of l.around)) (derivings (context_of l.around) l.place (trees.derivings (derivings_of l.list.items) No_derivings) l.fn.steps l.fn.made)

abbrev pub invariant-naming::add_entries-entries : goal.invariant-naming::add_entries-entries
invariant-naming::add_entries-entries l =
    run_by (answered (told_of l.around)) (stacked (context_of l.around) l.place (trees.row (parameter_row_of (drop l.pair-index l.pair-items)) No_more) l.types l.made)
    ≡ run_by (answered (told_of l.around)) (stacked (context_of l.around) l.place (trees.row (parameter_row_of l.more.items) No_more) l.fn.types l.fn.made)

abbrev pub invariant-bodies::members-members : goal.invariant-bodies::members-members
invariant-bodies::members-members l =
    run_by (answered (told_of l.around)) (members (context_of l.around) l.place (trees.members (members_of (drop l.next-index l.next-items)) trees.No_members) l.fields l.made)
    ≡ run_by (answered (told_of l.around)) (members (context_of l.around) l.place (trees.members (members_of l.list.items) trees.No_members) l.fn.fields l.fn.made)

abbrev pub invariant-bodies::other_fields-fields : goal.invariant-bodies::other_fields-fields
invariant-bodies::other_fields-fields l =
    run_by (answered (told_of l.around)) (fields (context_of l.around) l.place l.at l.base.0 l.base.1 (trees.fields (fields_of (drop l.pair-index l.pair-items)) trees.No_fields) l.fields l.made)
    ≡ run_by (answered (told_of l.around)) (fields (context_of l.around) l.place l.at l.base.0 l.base.1 (trees.fields (fields_of l.more.items) trees.No_fields) l.fn.fields l.fn.made)

abbrev pub invariant-bodies::enumerators-enumerators : goal.invariant-bodies::enumerators-enumerators
invariant-bodies::enumerators-enumerators l =
    run_by (answered (told_of l.around)) (enumerators (context_of l.around) l.place (trees.enumerators (enumerators_of (drop l.pair-index l.pair-items)) trees.No_enumerators) l.rows l.made)
    ≡ run_by (answered (told_of l.around)) (enumerators (context_of l.around) l.place (trees.enumerators (enumerators_of l.more.items) trees.No_enumerators) l.fn.rows l.fn.made)
