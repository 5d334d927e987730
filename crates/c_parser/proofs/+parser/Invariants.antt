use Rattle.std.proofs.Common.{◌+◌, ◌-◌, ◌*◌, length}
use Rattle.tree_data.specs.Seen.{tree_of, operands_of, suffixes_of, choices_of, lefts_of, pieces_of, designators_of, associations_of, prefixes_of, specifiers_of, derivings_of, parameter_row_of, fields_of, members_of, enumerators_of}
use Rattle.c_parser.specs.Beginnings.{start_of}
use Rattle.c_parser.proofs.EnumeratorLists.{Enumerating}
use Rattle.c_parser.proofs.Fronts.{Fore}
use Rattle.c_parser.proofs.Generics.{Choices, Steps}
use Rattle.c_parser.proofs.Initials.{Row, Path}
use Rattle.c_parser.proofs.Operations.{Climb}
use Rattle.c_parser.proofs.Parsing.{Loop}
use Rattle.c_parser.specs.Kinds.{level_at}
use Rattle.c_parser.proofs.Abstract.{Derived}
use Rattle.c_parser.proofs.ParameterLists.{Rowing}
use Rattle.c_parser.proofs.MemberLists.{Fielding, Membering}
use Rattle.c_parser.proofs.SpecifierLists.{Specifiers}
use Rattle.c_parser.proofs.+parser.Given as goal

abbrev pub decreases-expressions::level : goal.decreases-expressions::level
decreases-expressions::level l = 64 * (length l.kinds.now - l.at) + (2 * (20 - l.n) + 2)

abbrev pub decreases-expressions::binary : goal.decreases-expressions::binary
decreases-expressions::binary l = 64 * (length l.kinds.now - l.behind) + 62

abbrev pub decreases-expressions::operations : goal.decreases-expressions::operations
decreases-expressions::operations l = 64 * (length l.kinds.now - l.at) + (2 * (20 - l.n) + 1)

abbrev pub invariant-expressions::operations-operators : goal.invariant-expressions::operations-operators
invariant-expressions::operations-operators l = Climb l.kinds l.n l.at (tree_of l.expr) l.end

abbrev pub decreases-expressions::operations-operators : goal.decreases-expressions::operations-operators
decreases-expressions::operations-operators l = level_at l.kinds l.end

abbrev pub decreases-expressions::comma : goal.decreases-expressions::comma
decreases-expressions::comma l = 64 * (length l.kinds.now - l.at) + 39

abbrev pub decreases-expressions::assignment : goal.decreases-expressions::assignment
decreases-expressions::assignment l = 64 * (length l.kinds.now - l.at) + 37

abbrev pub decreases-expressions::conditional : goal.decreases-expressions::conditional
decreases-expressions::conditional l = 64 * (length l.kinds.now - l.at) + 35

abbrev pub decreases-expressions::unary : goal.decreases-expressions::unary
decreases-expressions::unary l = 64 * (length l.kinds.now - l.at) + 12

abbrev pub decreases-expressions::postfix : goal.decreases-expressions::postfix
decreases-expressions::postfix l = 64 * (length l.kinds.now - start_of l.begun) + 11

abbrev pub decreases-expressions::begun_with : goal.decreases-expressions::begun_with
decreases-expressions::begun_with l = 64 * (length l.kinds.now - start_of l.begun) + 10

abbrev pub decreases-expressions::compound : goal.decreases-expressions::compound
decreases-expressions::compound l = 64 * (length l.kinds.now - l.opening) + 9

abbrev pub decreases-initializers::braces : goal.decreases-initializers::braces
decreases-initializers::braces l = 64 * (length l.kinds.now - l.at) + 6

abbrev pub decreases-initializers::init : goal.decreases-initializers::init
decreases-initializers::init l = 64 * (length l.kinds.now - l.at) + 45

abbrev pub decreases-initializers::designator : goal.decreases-initializers::designator
decreases-initializers::designator l = 64 * (length l.kinds.now - l.at) + 45

abbrev pub decreases-initializers::designators : goal.decreases-initializers::designators
decreases-initializers::designators l = 64 * (length l.kinds.now - l.at) + 46

abbrev pub decreases-initializers::designated : goal.decreases-initializers::designated
decreases-initializers::designated l = 64 * (length l.kinds.now - l.at) + 46

abbrev pub decreases-initializers::piece : goal.decreases-initializers::piece
decreases-initializers::piece l = 64 * (length l.kinds.now - l.at) + 47

abbrev pub decreases-initializers::pieces : goal.decreases-initializers::pieces
decreases-initializers::pieces l = 64 * (length l.kinds.now - l.at) + 48

abbrev pub decreases-expressions::primary : goal.decreases-expressions::primary
decreases-expressions::primary l = 64 * (length l.kinds.now - l.at) + 8

abbrev pub decreases-expressions::paren : goal.decreases-expressions::paren
decreases-expressions::paren l = 64 * (length l.kinds.now - l.at) + 7

abbrev pub decreases-expressions::suffixes : goal.decreases-expressions::suffixes
decreases-expressions::suffixes l = 64 * (length l.kinds.now - l.at) + 60

abbrev pub decreases-expressions::suffix : goal.decreases-expressions::suffix
decreases-expressions::suffix l = 64 * (length l.kinds.now - l.at) + 59

abbrev pub decreases-expressions::index : goal.decreases-expressions::index
decreases-expressions::index l = 64 * (length l.kinds.now - l.at) + 58

abbrev pub decreases-expressions::call : goal.decreases-expressions::call
decreases-expressions::call l = 64 * (length l.kinds.now - l.at) + 58

abbrev pub decreases-expressions::operands : goal.decreases-expressions::operands
decreases-expressions::operands l = 64 * (length l.kinds.now - l.at) + 61

abbrev pub invariant-expressions::operands-operators : goal.invariant-expressions::operands-operators
invariant-expressions::operands-operators l = Loop l.kinds l.n l.fn.at (operands_of l.pairs.items) l.end

abbrev pub decreases-expressions::operands-operators : goal.decreases-expressions::operands-operators
decreases-expressions::operands-operators l = length l.kinds - l.end

abbrev pub invariant-expressions::suffixes-suffixes : goal.invariant-expressions::suffixes-suffixes
invariant-expressions::suffixes-suffixes l = Loop l.kinds 16 l.fn.at (suffixes_of l.suffixes.items) l.end

abbrev pub decreases-expressions::suffixes-suffixes : goal.decreases-expressions::suffixes-suffixes
decreases-expressions::suffixes-suffixes l = length l.kinds - l.end

abbrev pub invariant-expressions::conditional-choices : goal.invariant-expressions::conditional-choices
invariant-expressions::conditional-choices l = Fore l.kinds 3 l.fn.at (choices_of l.choices.items) l.start

abbrev pub decreases-expressions::conditional-choices : goal.decreases-expressions::conditional-choices
decreases-expressions::conditional-choices l = length l.kinds - l.start

abbrev pub invariant-expressions::assignment-places : goal.invariant-expressions::assignment-places
invariant-expressions::assignment-places l = Fore l.kinds 2 l.fn.at (lefts_of l.places.items) l.start

abbrev pub decreases-expressions::assignment-places : goal.decreases-expressions::assignment-places
decreases-expressions::assignment-places l = length l.kinds - l.start

abbrev pub invariant-initializers::pieces-pieces : goal.invariant-initializers::pieces-pieces
invariant-initializers::pieces-pieces l = Row l.kinds l.fn.at (pieces_of l.more.items) l.end

abbrev pub decreases-initializers::pieces-pieces : goal.decreases-initializers::pieces-pieces
decreases-initializers::pieces-pieces l = length l.kinds - l.end

abbrev pub invariant-initializers::designators-designators : goal.invariant-initializers::designators-designators
invariant-initializers::designators-designators l = Path l.kinds l.fn.at (designators_of l.more.items) l.end

abbrev pub decreases-initializers::designators-designators : goal.decreases-initializers::designators-designators
decreases-initializers::designators-designators l = length l.kinds - l.end

abbrev pub decreases-selections::generic : goal.decreases-selections::generic
decreases-selections::generic l = 64 * (length l.kinds.now - l.at) + 7

abbrev pub decreases-selections::offset : goal.decreases-selections::offset
decreases-selections::offset l = 64 * (length l.kinds.now - l.at) + 7

abbrev pub decreases-selections::other : goal.decreases-selections::other
decreases-selections::other l = 64 * (length l.kinds.now - l.at) + 46

abbrev pub decreases-selections::association : goal.decreases-selections::association
decreases-selections::association l = 64 * (length l.kinds.now - l.at) + 47

abbrev pub decreases-selections::associations : goal.decreases-selections::associations
decreases-selections::associations l = 64 * (length l.kinds.now - l.at) + 48

abbrev pub decreases-selections::steps : goal.decreases-selections::steps
decreases-selections::steps l = 64 * (length l.kinds.now - l.at) + 61

abbrev pub invariant-selections::associations-choices : goal.invariant-selections::associations-choices
invariant-selections::associations-choices l = Choices l.kinds l.fn.at (associations_of l.choices.items) l.end

abbrev pub decreases-selections::associations-choices : goal.decreases-selections::associations-choices
decreases-selections::associations-choices l = length l.kinds - l.end

abbrev pub invariant-selections::steps-steps : goal.invariant-selections::steps-steps
invariant-selections::steps-steps l = Steps l.kinds l.fn.at (suffixes_of l.steps.items) l.end

abbrev pub decreases-selections::steps-steps : goal.decreases-selections::steps-steps
decreases-selections::steps-steps l = length l.kinds - l.end

abbrev pub decreases-before::prefixes : goal.decreases-before::prefixes
decreases-before::prefixes l = 64 * (length l.kinds.now - l.at) + 11

abbrev pub decreases-before::in_front : goal.decreases-before::in_front
decreases-before::in_front l = 64 * (length l.kinds.now - l.at) + 10

abbrev pub decreases-before::cast : goal.decreases-before::cast
decreases-before::cast l = 64 * (length l.kinds.now - l.at) + 9

abbrev pub decreases-before::size : goal.decreases-before::size
decreases-before::size l = 64 * (length l.kinds.now - l.at) + 9

abbrev pub decreases-before::typed : goal.decreases-before::typed
decreases-before::typed l = 64 * (length l.kinds.now - l.at) + 8

abbrev pub invariant-before::prefixes-prefixes : goal.invariant-before::prefixes-prefixes
invariant-before::prefixes-prefixes l = Fore l.kinds 15 l.fn.at (prefixes_of l.prefixes.items) l.end

abbrev pub decreases-before::prefixes-prefixes : goal.decreases-before::prefixes-prefixes
decreases-before::prefixes-prefixes l = length l.kinds - l.end

abbrev pub invariant-type_names::specifiers-specifiers : goal.invariant-type_names::specifiers-specifiers
invariant-type_names::specifiers-specifiers l = Specifiers l.kinds l.fn.site l.fn.at (specifiers_of l.specifiers.items) l.end l.typed

abbrev pub decreases-type_names::specifiers-specifiers : goal.decreases-type_names::specifiers-specifiers
decreases-type_names::specifiers-specifiers l = length l.kinds - l.end

abbrev pub invariant-declarators::derivings-derivings : goal.invariant-declarators::derivings-derivings
invariant-declarators::derivings-derivings l = Derived l.kinds l.fn.declares l.fn.at (derivings_of l.derivings.items) l.end

abbrev pub decreases-declarators::derivings-derivings : goal.decreases-declarators::derivings-derivings
decreases-declarators::derivings-derivings l = length l.kinds - l.end

abbrev pub decreases-type_names::specified : goal.decreases-type_names::specified
decreases-type_names::specified l = 64 * (length l.kinds.now - l.at) + 44

abbrev pub decreases-type_names::specifiers : goal.decreases-type_names::specifiers
decreases-type_names::specifiers l = 64 * (length l.kinds.now - l.at) + 43

abbrev pub decreases-type_names::specifier : goal.decreases-type_names::specifier
decreases-type_names::specifier l = 64 * (length l.kinds.now - l.at) + 42

abbrev pub decreases-type_names::atomic : goal.decreases-type_names::atomic
decreases-type_names::atomic l = 64 * (length l.kinds.now - l.at) + 41

abbrev pub decreases-declarators::declarator : goal.decreases-declarators::declarator
decreases-declarators::declarator l = 64 * (length l.kinds.now - l.at) + 40

abbrev pub decreases-declarators::group : goal.decreases-declarators::group
decreases-declarators::group l = 64 * (length l.kinds.now - l.at) + 39

abbrev pub decreases-declarators::derivings : goal.decreases-declarators::derivings
decreases-declarators::derivings l = 64 * (length l.kinds.now - l.at) + 39

abbrev pub decreases-declarators::array_or_function : goal.decreases-declarators::array_or_function
decreases-declarators::array_or_function l = 64 * (length l.kinds.now - l.at) + 38

abbrev pub decreases-declarators::array : goal.decreases-declarators::array
decreases-declarators::array l = 64 * (length l.kinds.now - l.at) + 37

abbrev pub decreases-declarators::bound : goal.decreases-declarators::bound
decreases-declarators::bound l = 64 * (length l.kinds.now - l.at) + 41

abbrev pub decreases-declarators::static_bound : goal.decreases-declarators::static_bound
decreases-declarators::static_bound l = 64 * (length l.kinds.now - l.at) + 40

abbrev pub decreases-declarators::bound_behind : goal.decreases-declarators::bound_behind
decreases-declarators::bound_behind l = 64 * (length l.kinds.now - l.behind) + 40

abbrev pub decreases-type_names::type_name : goal.decreases-type_names::type_name
decreases-type_names::type_name l = 64 * (length l.kinds.now - l.at) + 45

abbrev pub invariant-declarators::parameter_row-parameters : goal.invariant-declarators::parameter_row-parameters
invariant-declarators::parameter_row-parameters l = Rowing l.fn.kinds l.fn.at (parameter_row_of l.more.items) l.end l.inner

abbrev pub decreases-declarators::parameter_row-parameters : goal.decreases-declarators::parameter_row-parameters
decreases-declarators::parameter_row-parameters l = length l.inner - l.end

abbrev pub decreases-declarators::parameter_row : goal.decreases-declarators::parameter_row
decreases-declarators::parameter_row l = 64 * (length l.kinds - l.at) + 45

abbrev pub decreases-declarators::more_parameters : goal.decreases-declarators::more_parameters
decreases-declarators::more_parameters l = 64 * (length l.kinds.now - l.at) + 46

abbrev pub decreases-declarators::parameters : goal.decreases-declarators::parameters
decreases-declarators::parameters l = 64 * (length l.kinds.now - l.at) + 47

abbrev pub decreases-declarators::function : goal.decreases-declarators::function
decreases-declarators::function l = 64 * (length l.kinds.now - l.at) + 37

abbrev pub decreases-type_names::alignment : goal.decreases-type_names::alignment
decreases-type_names::alignment l = 64 * (length l.kinds.now - l.at) + 41

abbrev pub decreases-type_names::aligned_as : goal.decreases-type_names::aligned_as
decreases-type_names::aligned_as l = 64 * (length l.kinds.now - l.at) + 40

abbrev pub decreases-type_names::braced : goal.decreases-type_names::braced
decreases-type_names::braced l = 64 * (length l.kinds.now - l.at) + 41

abbrev pub decreases-type_names::structure : goal.decreases-type_names::structure
decreases-type_names::structure l = 64 * (length l.kinds.now - l.at) + 40

abbrev pub decreases-members::direct : goal.decreases-members::direct
decreases-members::direct l = 64 * (length l.kinds.now - l.at) + 38

abbrev pub decreases-members::declared : goal.decreases-members::declared
decreases-members::declared l = 64 * (length l.kinds.now - l.at) + 40

abbrev pub decreases-members::assertion : goal.decreases-members::assertion
decreases-members::assertion l = 64 * (length l.kinds.now - l.at) + 43

abbrev pub decreases-members::padding : goal.decreases-members::padding
decreases-members::padding l = 64 * (length l.kinds.now - l.at) + 40

abbrev pub decreases-members::field : goal.decreases-members::field
decreases-members::field l = 64 * (length l.kinds.now - l.at) + 41

abbrev pub decreases-members::more_fields : goal.decreases-members::more_fields
decreases-members::more_fields l = 64 * (length l.kinds.now - l.at) + 42

abbrev pub invariant-members::more_fields-fields : goal.invariant-members::more_fields-fields
invariant-members::more_fields-fields l = Fielding l.kinds l.fn.at (fields_of l.more.items) l.end

abbrev pub decreases-members::more_fields-fields : goal.decreases-members::more_fields-fields
decreases-members::more_fields-fields l = length l.kinds - l.end

abbrev pub decreases-members::fields : goal.decreases-members::fields
decreases-members::fields l = 64 * (length l.kinds.now - l.at) + 43

abbrev pub decreases-members::specified_member : goal.decreases-members::specified_member
decreases-members::specified_member l = 64 * (length l.kinds.now - l.at) + 44

abbrev pub decreases-members::member : goal.decreases-members::member
decreases-members::member l = 64 * (length l.kinds.now - l.at) + 45

abbrev pub decreases-members::members : goal.decreases-members::members
decreases-members::members l = 64 * (length l.kinds.now - l.at) + 46

abbrev pub invariant-members::members-members : goal.invariant-members::members-members
invariant-members::members-members l = Membering l.kinds l.fn.at (members_of l.members.items) l.end

abbrev pub decreases-members::members-members : goal.decreases-members::members-members
decreases-members::members-members l = length l.kinds - l.end

abbrev pub decreases-enumerators::enumeration : goal.decreases-enumerators::enumeration
decreases-enumerators::enumeration l = 64 * (length l.kinds.now - l.at) + 40

abbrev pub decreases-enumerators::enumerator : goal.decreases-enumerators::enumerator
decreases-enumerators::enumerator l = 64 * (length l.kinds.now - l.at) + 41

abbrev pub decreases-enumerators::more_enumerators : goal.decreases-enumerators::more_enumerators
decreases-enumerators::more_enumerators l = 64 * (length l.kinds.now - l.at) + 42

abbrev pub invariant-enumerators::more_enumerators-enumerators : goal.invariant-enumerators::more_enumerators-enumerators
invariant-enumerators::more_enumerators-enumerators l = Enumerating l.kinds l.fn.at (enumerators_of l.more.items) l.end

abbrev pub decreases-enumerators::more_enumerators-enumerators : goal.decreases-enumerators::more_enumerators-enumerators
decreases-enumerators::more_enumerators-enumerators l = length l.kinds - l.end
