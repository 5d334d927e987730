use Rattle.c_parser.proofs.ParameterLists.{parameter_row_found, parameter_row_same, parameter_row_fails, parameter_row_push, none_same, first_missing, rest_missing, fixed_same, variadic_same, fixed_found, variadic_found, row_found_under, row_only_under, row_fails_under, rowing_start_with}
use Rattle.c_parser.proofs.Abstract.{no_group, group_fails, group_left_open, group_found, group_same, static_fails, static_found, static_same, unsized_found, unsized_same, last_static_fails, last_static_found, last_static_same, sized_fails, sized_found, sized_same, any_found, any_same, array_fails, array_left_open, array_found, found_deriving_only, nothing_derives, derivings_found, derivings_same, derivings_fail, derivings_unnamed, derivings_push, group_missing, derivings_missing, declaring_found, declaring_same, name_found, name_same, function_found, function_fails, function_left_open, function_barred}
use Rattle.c_parser.proofs.HeadDeclarators as named
use Rattle.c_parser.proofs.HeadWholes as asserts
use Rattle.c_parser.proofs.MemberLists.{OnlyField, padding_found, padding_same, padding_fails, no_declarator, declared_found, declared_same, bits_found, bits_same, width_fails, fielding_start_with, fielding_end, fielding_only, fielding_fails, fielding_push, first_fails as first_field_fails, rest_fails, list_unended, list_found, specs_fail, no_specs, bare_found, list_missing, fields_found, asserted_found, asserted_fails, membering_start_with, membering_fails, members_end, membering_push}
use Rattle.c_parser.specs.HeadsFound.{FoundDirect, FoundDeclarator, FoundAssertion}
use Rattle.c_parser.specs.MembersFound.{FoundField, FoundMember}
use Rattle.c_parser.specs.EnumeratorsFound.{FoundEnumerator}
use Rattle.c_parser.proofs.EnumeratorLists as enumerating
use Rattle.c_parser.proofs.SpecifierLists.{OnlySpecifiers, FailsSpecifiers, align_unopened, aligned_as_fails, aligned_as_found, aligned_fails, aligned_left_open, aligned_found, structure_found, structure_fails, enumeration_found, enumeration_fails, atomic_found, atomic_specified, atomic_fails, specifiers_end, specifiers_only, specifiers_fail, specifiers_refused, specifiers_push, specifiers_missing, none_specifying, some_specifying, declarator_missing, naming_found, name_only, specifiers_told}
use Rattle.c_parser.proofs.Words.{list_inside, list_tags, list_braces, tag_is, left_of, right_of, not_named, named_or, opens_inside, opens_next, name_stands, name_stands_not, behind_mapped}
use Rattle.c_parser.specs.TypeNames.{FoundSpecifiers, FoundGrouping, FoundBound, FoundDeriving, FoundDeclaring, FoundParameters}
use Rattle.tree_data.specs.Trees.{Atomic_of, Type_of, Bare_of, Fields_of, No_fields, No_specifiers, fields, specifyings, needs_name}
use Rattle.tree_data.specs.Seen.{declarator_of, deriving_of, field_of, fields_of, pointers_of, pointing, specifiers_of}
use Rattle.c_parser.specs.declared.before.Begun.TheVariants.{Literal}
use Rattle.std.proofs.Common.{ap, sym, ◌∙◌, subst, arith, ◌+◌, ◌≤◌, ◌<◌, ◌≡◌, refl, length, ◌==◌, not, is_some}
use Rattle.c_parser.specs.Beginnings.{start_of}
use Rattle.c_parser.specs.Kinds.{level_of, is_word, is_designating, is_prefix, is_deriving, opens_parameters, named_by, behind_pointers, plain_behind, starts_type, hide}
use Rattle.c_parser.specs.Reading.{Reads, Found, FoundBehind, FoundBraces, FoundInitial, FoundDesignator, FoundAssociation, FoundFront, FoundNaming}
use Rattle.c_parser.proofs.Fronts.{value_fails, no_place, places_end, test_fails, middle_fails, no_colon, tests_end, unary_fails, operand_of_fails, unary_found}
use Rattle.c_parser.proofs.Marks.{is_step, member_none}
use Rattle.c_parser.proofs.Generics.{default_found, default_only, default_unparted, default_fails, typed_found, typed_only, type_first_fails, typed_unparted, typed_fails, choices_found, choices_only, choices_fail, generic_unopened, control_fails, nothing_chosen, choices_of_fail, generic_left_open, generic_found, steps_found, steps_only, steps_fail, offset_unopened, offset_type_fails, offset_unparted, offset_unnamed, offset_steps_fail, offset_left_open, offset_found}
use Rattle.c_parser.proofs.Initials.{field_found, found_designator_only, field_unnamed, element_opens, element_fails, element_left_open, element_found, value_found, value_only, init_fails, list_only, list_fails, plain_only, plain_fails, designated_only, designator_fails, designators_fail, unequal, designated_fails, braces_found, found_braces_only, first_piece_fails, more_pieces_fail, braces_left_open, row_found, row_only, row_found_comma, row_only_comma, row_fails, path_found, path_only, path_fails}
use Rattle.c_parser.proofs.Openings.{fails_by_first, plain_fits, literal_fails, cast_found, type_inside, type_opens, cast_fails, casts_not, operator_found, prefixes_end, prefixes_only, prefixes_fail, size_inside, size_typed, size_fails, size_begun, align_fails}
use Rattle.c_parser.proofs.Parsing.{paren_fails, paren_left_open, paren_found, other_fails, found_only, found_behind_only, found_behinds_only, first_fails, more_fails, binary_found, postfix_found, loop_ends, loop_fails, operand_fails, index_found, index_fails, index_left_open, empty_found, call_found, call_first_fails, call_more_fails, call_left_open, step_found}
use Rattle.c_parser.proofs.Operations.{comma_level, lifted, climb_ends, climb_own, own_low, climb_turns}
use Rattle.c_parser.proofs.Pushes.{associations_push, steps_push, pieces_push, designators_push, operands_push, suffixes_push, choices_push, places_push, prefixes_push}
use Rattle.c_parser.proofs.Views.{binary_view, postfix_view}
use Rattle.c_parser.proofs.+parser.Goals as goal
use Rattle.c_parser.specs.Declarators.{name_of, name_in}
use Rattle.c_parser.specs.Grammar.{name_by}
use Rattle.c_parser.proofs.Hiding.{hidden_length}

pub expressions::assignment-returns-in-Err-clause-only : goal.expressions::assignment-returns-in-Err-clause-only
expressions::assignment-returns-in-Err-clause-only t c = value_fails _ _ _ _ _ c.places.invariant c.in-Err.ensures.only

pub expressions::assignment-returns-in-Ok-assign : goal.expressions::assignment-returns-in-Ok-assign
expressions::assignment-returns-in-Ok-assign t c =
    let made =
    subst
    (λ x. Found c.args.kinds.now 2 c.args.at x c.in-Ok.found.1)
    (sym c.in-Ok-assign.ensures.tree)
    (places_end
    _
    _
    _
    _
    _
    _
    c.places.invariant
    c.in-Ok.ensures.found
    (λ e. c.if-level_at-ne-ASSIGNMENT.true (c.level_at.ensures.level ∙ e))) in
    record { found = made; only = found_only _ _ _ _ _ (omega arith) made }

pub expressions::assignment-returns-then-not-is_unary-clause-only :
    goal.expressions::assignment-returns-then-not-is_unary-clause-only
expressions::assignment-returns-then-not-is_unary-clause-only t c =
    no_place
    _
    _
    _
    _
    _
    _
    c.places.invariant
    c.in-Ok.ensures.found
    (sym c.level_at.ensures.level ∙ c.if-level_at-ne-ASSIGNMENT.false)
    (sym c.is_unary.ensures ∙ c.if-not-is_unary.true)

pub expressions::assignment-places-preserved : goal.expressions::assignment-places-preserved
expressions::assignment-places-preserved t c =
    let assigns : c.level_at.result ≡ 2 = c.if-level_at-ne-ASSIGNMENT.false in
    places_push
    _
    _
    _
    _
    _
    _
    _
    c.places.invariant
    c.in-Ok.ensures.found
    (sym c.level_at.ensures.level ∙ assigns)
    (sym c.is_unary.ensures ∙ c.if-not-is_unary.false)
    (c.level_at.ensures.inside (subst (λ x. 0 < x) (sym assigns) (omega arith)))
    c.in-Ok-push.ensures.items

pub expressions::binary-returns-in-Err-clause-fails : goal.expressions::binary-returns-in-Err-clause-fails
expressions::binary-returns-in-Err-clause-fails t c a found =
    more_fails
    _
    _
    _
    _
    _
    (λ t b h. binary_view _ _ c.requires.binary t _ b h)
    _
    _
    found
    c.in-Err.ensures.only

pub expressions::binary-returns-in-Ok-binary-clause-found : goal.expressions::binary-returns-in-Ok-binary-clause-found
expressions::binary-returns-in-Ok-binary-clause-found t c a found =
    subst
    (λ x. Found c.args.kinds.now c.args.n a x c.in-Ok.found.1)
    (sym c.in-Ok-binary.ensures.tree)
    (binary_found _ _ _ c.requires.binary _ _ _ _ found c.in-Ok.ensures.found)

pub expressions::operations-returns-in-Err-clause-only : goal.expressions::operations-returns-in-Err-clause-only
expressions::operations-returns-in-Err-clause-only t c =
    lifted _ _ 14 _ _ c.requires.low c.requires.high (omega arith) c.in-Err.ensures.only

pub expressions::operations-returns-then-own-n : goal.expressions::operations-returns-then-own-n
expressions::operations-returns-then-own-n t c =
    let low : 4 ≤ c.args.n = c.requires.low in
    let made = climb_ends _ _ _ _ _ c.operators.invariant (subst (λ x. x < c.args.n) c.level_at-own.ensures.level c.if-own-n.true) in
    record { found = made; only = found_only _ _ _ _ _ (omega arith) made }

pub expressions::operations-returns-in-Err-binary-clause-only : goal.expressions::operations-returns-in-Err-binary-clause-only
expressions::operations-returns-in-Err-binary-clause-only t c =
    let own = climb_own _ _ _ _ _ _ c.operators.invariant c.level_at-own.ensures.level in
    let most = own_low _ _ _ _ _ _ c.operators.invariant c.level_at-own.ensures.level in
    lifted _ _ c.level_at-own.result _ _ c.requires.low (omega arith) (omega arith) (c.in-Err-binary.ensures.fails _ own)

pub expressions::operations-operators-preserved : goal.expressions::operations-operators-preserved
expressions::operations-operators-preserved t c =
    let own = climb_own _ _ _ _ _ _ c.operators.invariant c.level_at-own.ensures.level in
    let most = own_low _ _ _ _ _ _ c.operators.invariant c.level_at-own.ensures.level in
    climb_turns _ _ _ _ _ _ (omega arith) most (c.in-Ok-binary.ensures.found _ own)

pub expressions::comma-returns-in-Err-clause-only : goal.expressions::comma-returns-in-Err-clause-only
expressions::comma-returns-in-Err-clause-only t c =
    first_fails _ _ _ _ _ (λ t b h. binary_view _ 1 comma_level t _ b h) c.in-Err.ensures.only

pub expressions::comma-returns-in-Err-binary-clause-only : goal.expressions::comma-returns-in-Err-binary-clause-only
expressions::comma-returns-in-Err-binary-clause-only t c = c.in-Err-binary.ensures.fails _ c.in-Ok.ensures.found

pub expressions::comma-returns-in-Ok-binary-clause-found : goal.expressions::comma-returns-in-Ok-binary-clause-found
expressions::comma-returns-in-Ok-binary-clause-found t c = c.in-Ok-binary.ensures.found _ c.in-Ok.ensures.found

pub expressions::comma-returns-in-Ok-binary-clause-only : goal.expressions::comma-returns-in-Ok-binary-clause-only
expressions::comma-returns-in-Ok-binary-clause-only t c =
    found_only _ _ _ _ _ (omega arith) (c.in-Ok-binary.ensures.found _ c.in-Ok.ensures.found)

pub expressions::call-returns-in-CloseParen-clause-only : goal.expressions::call-returns-in-CloseParen-clause-only
expressions::call-returns-in-CloseParen-clause-only t c =
    found_behind_only
    _
    _
    _
    _
    (subst
    (λ x. FoundBehind c.args.kinds.now 16 c.args.at x (c.args.at + 2))
    (sym c.call.ensures)
    (empty_found _ _ c.requires.kind (sym c.in-CloseParen.ensures.kind) c.in-CloseParen.ensures.inside))

pub expressions::call-returns-in-Err : goal.expressions::call-returns-in-Err
expressions::call-returns-in-Err t c = record {
  found = tt;
  only =
      call_first_fails
      _
      _
      c.requires.kind
      _
      c.kind_at.ensures.kind
      c.in_default.not-CloseParen
      _
      c.in-Err.ensures.only;
}

pub expressions::call-returns-in-Err-operands : goal.expressions::call-returns-in-Err-operands
expressions::call-returns-in-Err-operands t c = record {
  found = tt;
  only =
      call_more_fails
      _
      _
      c.requires.kind
      _
      c.kind_at.ensures.kind
      c.in_default.not-CloseParen
      _
      _
      c.in-Ok.ensures.found
      _
      c.in-Err-operands.ensures.only;
}

pub expressions::call-returns-in_default-kind_at : goal.expressions::call-returns-in_default-kind_at
expressions::call-returns-in_default-kind_at t c = record {
  found = tt;
  only =
      call_left_open
      _
      _
      c.requires.kind
      _
      c.kind_at.ensures.kind
      c.in_default.not-CloseParen
      _
      _
      _
      _
      _
      c.in-Ok.ensures.found
      c.in-Ok-operands.ensures.found
      c.kind_at-2.ensures.kind
      c.in_default-kind_at.not-CloseParen;
}

pub expressions::call-returns-in-Ok-call_with : goal.expressions::call-returns-in-Ok-call_with
expressions::call-returns-in-Ok-call_with t c =
    let made =
    subst
    (λ x. FoundBehind c.args.kinds.now 16 c.args.at x (c.in-Ok-operands.found.1 + 1))
    (sym c.in-Ok-call_with.ensures)
    (call_found
    _
    _
    c.requires.kind
    _
    _
    _
    _
    c.in-Ok.ensures.found
    c.in-Ok-operands.ensures.found
    (sym c.in-CloseParen-kind_at.ensures.kind)
    c.in-CloseParen-kind_at.ensures.inside) in
    record { found = made; only = found_behind_only _ _ _ _ made }

pub expressions::conditional-returns-in-Err-clause-only : goal.expressions::conditional-returns-in-Err-clause-only
expressions::conditional-returns-in-Err-clause-only t c = test_fails _ _ _ _ _ c.choices.invariant c.in-Err.ensures.only

pub expressions::conditional-returns-in-Ok-conditional : goal.expressions::conditional-returns-in-Ok-conditional
expressions::conditional-returns-in-Ok-conditional t c =
    let made =
    subst
    (λ x. Found c.args.kinds.now 3 c.args.at x c.in-Ok.found.1)
    (sym c.in-Ok-conditional.ensures.tree)
    (tests_end
    _
    _
    _
    _
    _
    _
    _
    c.choices.invariant
    c.in-Ok.ensures.found
    c.kind_at.ensures.kind
    c.in_default.not-Question) in
    record { found = made; only = found_only _ _ _ _ _ (omega arith) made }

pub expressions::conditional-returns-in-Err-level-clause-only :
    goal.expressions::conditional-returns-in-Err-level-clause-only
expressions::conditional-returns-in-Err-level-clause-only t c =
    middle_fails
    _
    _
    _
    _
    _
    _
    _
    c.choices.invariant
    c.in-Ok.ensures.found
    (sym c.in-Question.ensures.kind)
    c.in-Err-level.ensures.only

pub expressions::conditional-returns-in_default-kind_at : goal.expressions::conditional-returns-in_default-kind_at
expressions::conditional-returns-in_default-kind_at t c = record {
  found = tt;
  only =
      no_colon
      _
      _
      _
      _
      _
      _
      _
      _
      _
      c.choices.invariant
      c.in-Ok.ensures.found
      (sym c.in-Question.ensures.kind)
      c.in-Ok-level.ensures.found
      c.kind_at-in-choices.ensures.kind
      c.in_default-kind_at.not-Colon;
}

pub expressions::conditional-choices-preserved : goal.expressions::conditional-choices-preserved
expressions::conditional-choices-preserved t c =
    choices_push
    _
    _
    _
    _
    _
    _
    _
    _
    _
    _
    c.choices.invariant
    c.in-Ok.ensures.found
    (sym c.in-Question.ensures.kind)
    c.in-Ok-level.ensures.found
    (sym c.in-Colon.ensures.kind)
    c.in-Colon.ensures.inside
    c.new.ensures
    c.in-Ok-push.ensures.items

pub expressions::index-returns-in-Err-clause-only : goal.expressions::index-returns-in-Err-clause-only
expressions::index-returns-in-Err-clause-only t c = index_fails _ _ c.requires.kind _ c.in-Err.ensures.only

pub expressions::index-returns-in_default : goal.expressions::index-returns-in_default
expressions::index-returns-in_default t c = record {
  found = tt;
  only =
      index_left_open
      _
      _
      c.requires.kind
      _
      _
      _
      c.in-Ok.ensures.found
      c.kind_at.ensures.kind
      c.in_default.not-CloseBracket;
}

pub expressions::index-returns-in-Ok-index-clause-only : goal.expressions::index-returns-in-Ok-index-clause-only
expressions::index-returns-in-Ok-index-clause-only t c =
    found_behind_only
    _
    _
    _
    _
    (subst
    (λ x. FoundBehind c.args.kinds.now 16 c.args.at x (c.in-Ok.found.1 + 1))
    (sym c.in-Ok-index.ensures)
    (index_found
    _
    _
    c.requires.kind
    _
    _
    c.in-Ok.ensures.found
    (sym c.in-CloseBracket.ensures.kind)
    c.in-CloseBracket.ensures.inside))

pub expressions::operands-returns-then-level_at-n-clause-only :
    goal.expressions::operands-returns-then-level_at-n-clause-only
expressions::operands-returns-then-level_at-n-clause-only t c =
    found_behinds_only
    _
    _
    _
    _
    _
    (loop_ends _ _ _ _ _ c.operators.invariant (λ e. c.if-level_at-n.true (c.level_at.ensures.level ∙ e)))

pub expressions::operands-returns-in-Err-clause-only : goal.expressions::operands-returns-in-Err-clause-only
expressions::operands-returns-in-Err-clause-only t c =
    loop_fails
    _
    _
    _
    _
    _
    _
    c.operators.invariant
    (sym c.level_at.ensures.level ∙ c.if-level_at-n.false)
    (operand_fails _ _ _ c.requires.binary _ c.in-Err.ensures.only)

pub expressions::operands-operators-preserved : goal.expressions::operands-operators-preserved
expressions::operands-operators-preserved t c =
    operands_push
    _
    _
    _
    _
    _
    _
    _
    _
    c.requires.binary
    c.operators.invariant
    (sym c.level_at.ensures.level ∙ c.if-level_at-n.false)
    c.in-Ok.ensures.found
    c.in-Ok-push.ensures.items

pub expressions::postfix-returns-in-Err-suffixes-clause-only : goal.expressions::postfix-returns-in-Err-suffixes-clause-only
expressions::postfix-returns-in-Err-suffixes-clause-only t c =
    more_fails _ _ _ _ _ (λ t b h. postfix_view _ t _ b h) _ _ c.in-Ok.ensures.found c.in-Err-suffixes.ensures.only

pub expressions::postfix-returns-in-Ok-postfix-clause-found : goal.expressions::postfix-returns-in-Ok-postfix-clause-found
expressions::postfix-returns-in-Ok-postfix-clause-found t c =
    subst
    (λ x. Found c.args.kinds.now 16 (start_of c.args.begun) x c.in-Ok-suffixes.found.1)
    (sym c.in-Ok-postfix.ensures.tree)
    (postfix_found _ _ _ _ _ _ c.in-Ok.ensures.fits c.in-Ok.ensures.found c.in-Ok-suffixes.ensures.found)

pub expressions::postfix-returns-in-Ok-postfix-clause-only : goal.expressions::postfix-returns-in-Ok-postfix-clause-only
expressions::postfix-returns-in-Ok-postfix-clause-only t c =
    found_only _ _ _ _ _ (omega arith) (expressions::postfix-returns-in-Ok-postfix-clause-found t c)

pub expressions::suffix-returns-in_default : goal.expressions::suffix-returns-in_default
expressions::suffix-returns-in_default t c =
    let kind =
    is_step
    _
    (ap level_of c.kind_at.ensures.kind ∙ c.requires.kind)
    c.in_default.not-OpenBracket
    c.in_default.not-OpenParen
    (member_none _ c.in_default.not-Member c.in_default.not-Dot) in
    let made =
    subst
    (λ x. FoundBehind c.args.kinds.now 16 c.args.at x (c.args.at + 1))
    (sym c.step.ensures)
    (step_found _ _ (sym c.kind_at.ensures.kind ∙ kind) c.requires.inside) in
    record { found = made; only = found_behind_only _ _ _ _ made }

pub expressions::suffixes-returns-then-level_at-ne-POSTFIX-clause-only :
    goal.expressions::suffixes-returns-then-level_at-ne-POSTFIX-clause-only
expressions::suffixes-returns-then-level_at-ne-POSTFIX-clause-only t c =
    found_behinds_only
    _
    _
    _
    _
    _
    (loop_ends _ _ _ _ _ c.suffixes.invariant (λ e. c.if-level_at-ne-POSTFIX.true (c.level_at.ensures.level ∙ e)))

pub expressions::suffixes-returns-in-Err-clause-only : goal.expressions::suffixes-returns-in-Err-clause-only
expressions::suffixes-returns-in-Err-clause-only t c =
    loop_fails
    _
    _
    _
    _
    _
    _
    c.suffixes.invariant
    (sym c.level_at.ensures.level ∙ c.if-level_at-ne-POSTFIX.false)
    (λ x b h s. c.in-Err.ensures.only x b h)

pub expressions::suffixes-suffixes-preserved : goal.expressions::suffixes-suffixes-preserved
expressions::suffixes-suffixes-preserved t c =
    suffixes_push
    _
    _
    _
    _
    _
    _
    _
    c.suffixes.invariant
    (sym c.level_at.ensures.level ∙ c.if-level_at-ne-POSTFIX.false)
    c.in-Ok.ensures.found
    c.in-Ok-push.ensures.items

pub expressions::unary-returns-in-Err-clause-only : goal.expressions::unary-returns-in-Err-clause-only
expressions::unary-returns-in-Err-clause-only t c = unary_fails _ _ _ c.in-Err.ensures.only

pub expressions::unary-returns-in-Err-postfix-clause-only : goal.expressions::unary-returns-in-Err-postfix-clause-only
expressions::unary-returns-in-Err-postfix-clause-only t c =
    operand_of_fails _ _ _ _ c.in-Ok.ensures.only _ c.in-Err-postfix.ensures.only

pub expressions::unary-returns-in-Ok-unary-clause-only : goal.expressions::unary-returns-in-Ok-unary-clause-only
expressions::unary-returns-in-Ok-unary-clause-only t c =
    found_only
    _
    _
    _
    _
    _
    (omega arith)
    (subst
    (λ x. Found c.args.kinds.now 14 c.args.at x c.in-Ok-postfix.found.1)
    (sym c.in-Ok-unary.ensures.tree)
    (unary_found _ _ _ _ _ _ c.in-Ok.ensures.found c.in-Ok-postfix.ensures.found))

pub expressions::begun_with-returns-in-Ok-clause-fits : goal.expressions::begun_with-returns-in-Ok-clause-fits
expressions::begun_with-returns-in-Ok-clause-fits t c =
    λ l. plain_fits _ _ (rw c.in-Plain.is at c.requires.begins) _ _ c.in-Ok.ensures.found

pub expressions::compound-returns-in-Err-clause-none : goal.expressions::compound-returns-in-Err-clause-none
expressions::compound-returns-in-Err-clause-none t c =
    literal_fails _ _ _ _ _ c.requires.literal c.in-Err.ensures.only

pub expressions::paren-returns-in-Err-clause-only : goal.expressions::paren-returns-in-Err-clause-only
expressions::paren-returns-in-Err-clause-only t c =
    paren_fails _ _ c.requires.kind c.requires.untyped _ c.in-Err.ensures.only

pub expressions::paren-returns-in_default : goal.expressions::paren-returns-in_default
expressions::paren-returns-in_default t c =
    record { found = tt; only = paren_left_open _ _ c.requires.kind c.requires.untyped _ _ _ c.in-Ok.ensures.found c.kind_at.ensures.kind c.in_default.not-CloseParen }

pub expressions::paren-returns-in-Ok-paren-clause-only : goal.expressions::paren-returns-in-Ok-paren-clause-only
expressions::paren-returns-in-Ok-paren-clause-only t c =
    found_only _ _ _ _ _ (omega arith) (subst (λ x. Found c.args.kinds.now 17 c.args.at x (c.in-Ok.found.1 + 1)) (sym c.in-Ok-paren.ensures) (paren_found _ _ c.requires.kind _ _ c.in-Ok.ensures.found (sym c.in-CloseParen.ensures.kind) c.in-CloseParen.ensures.inside))

pub expressions::primary-returns-in_default : goal.expressions::primary-returns-in_default
expressions::primary-returns-in_default t c =
    record {
      found = tt;
      only = other_fails _ _ _ c.kind_at.ensures.kind c.requires.plain.no_size c.in_default.not-Identifier c.in_default.not-Constant c.in_default.not-Text c.in_default.not-OpenParen
          c.in_default.not-Generic
          c.in_default.not-OffsetOf;
    }

pub initializers::braces-returns-in-Err-clause-only : goal.initializers::braces-returns-in-Err-clause-only
initializers::braces-returns-in-Err-clause-only t c =
    first_piece_fails _ _ _ c.in-Err.ensures.only

pub initializers::braces-returns-in-Err-pieces-clause-only : goal.initializers::braces-returns-in-Err-pieces-clause-only
initializers::braces-returns-in-Err-pieces-clause-only t c =
    more_pieces_fail _ _ _ _ c.in-Ok.ensures.only _ c.in-Err-pieces.ensures.only

pub initializers::braces-returns-in_default : goal.initializers::braces-returns-in_default
initializers::braces-returns-in_default t c =
    record { found = tt; only = braces_left_open _ _ _ _ _ _ _ c.in-Ok.ensures.only c.in-Ok-pieces.ensures.only _ c.kind_at.ensures.kind c.in_default.not-CloseBrace }

pub initializers::braces-returns-clause-only : goal.initializers::braces-returns-clause-only
initializers::braces-returns-clause-only t c =
    found_braces_only _ _ _ _ (subst (λ x. FoundBraces c.args.kinds.now c.args.at x (c.in-Ok-pieces.found.2 + 1)) (sym c.new.ensures) (braces_found _ _ c.requires.kind _ _ _ _ _ c.in-Ok.ensures.found c.in-Ok-pieces.ensures.found (sym c.in-CloseBrace.ensures.kind) c.in-CloseBrace.ensures.inside))

pub initializers::designated-returns-in-Err-clause-only : goal.initializers::designated-returns-in-Err-clause-only
initializers::designated-returns-in-Err-clause-only t c =
    designator_fails _ _ c.requires.kind _ c.in-Err.ensures.only

pub initializers::designated-returns-in-Err-designators-clause-only : goal.initializers::designated-returns-in-Err-designators-clause-only
initializers::designated-returns-in-Err-designators-clause-only t c =
    designators_fail _ _ c.requires.kind _ _ c.in-Ok.ensures.only _ c.in-Err-designators.ensures.only

pub initializers::designated-returns-in_default : goal.initializers::designated-returns-in_default
initializers::designated-returns-in_default t c =
    record { found = tt; only = unequal _ _ c.requires.kind _ _ _ _ c.in-Ok.ensures.only c.in-Ok-designators.ensures.only _ c.kind_at.ensures.kind c.in_default.not-Equals }

pub initializers::designated-returns-in-Ok-init-clause-only : goal.initializers::designated-returns-in-Ok-init-clause-only
initializers::designated-returns-in-Ok-init-clause-only t c =
    λ x end h s. let same = designated_only _ _ c.requires.kind _ _ _ _ _ _ c.in-Ok.ensures.only c.in-Ok-designators.ensures.only c.in-Ok-init.ensures.only x end h s in (c.designated.ensures ∙ same.0, same.1)

pub initializers::designated-returns-in-Err-init-clause-only : goal.initializers::designated-returns-in-Err-init-clause-only
initializers::designated-returns-in-Err-init-clause-only t c =
    designated_fails _ _ c.requires.kind _ _ _ _ c.in-Ok.ensures.only c.in-Ok-designators.ensures.only _ c.in-Err-init.ensures.only

pub initializers::designator-returns-then-not-is_word-clause-only : goal.initializers::designator-returns-then-not-is_word-clause-only
initializers::designator-returns-then-not-is_word-clause-only t c =
    field_unnamed _ _ (sym c.in-Dot.ensures.kind) (ap is_word (sym c.kind_at-in-Dot.ensures.kind) ∙ sym c.is_word.ensures ∙ c.if-not-is_word.true)

pub initializers::designator-returns-in-Dot-clause-only : goal.initializers::designator-returns-in-Dot-clause-only
initializers::designator-returns-in-Dot-clause-only t c =
    found_designator_only _ _ _ _ (subst (λ x. FoundDesignator c.args.kinds.now c.args.at x (c.args.at + 2)) (sym c.field.ensures) (field_found _ _ (sym c.in-Dot.ensures.kind) (ap is_word (sym c.kind_at-in-Dot.ensures.kind) ∙ sym c.is_word.ensures ∙ c.if-not-is_word.false)))

pub initializers::designator-returns-in-Err : goal.initializers::designator-returns-in-Err
initializers::designator-returns-in-Err t c =
    record { found = tt; only = element_fails _ _ (element_opens c.args.kinds.now c.args.at _ c.kind_at.ensures.kind c.in_default.not-Dot c.requires.kind) _ c.in-Err.ensures.only }

pub initializers::designator-returns-in_default-kind_at : goal.initializers::designator-returns-in_default-kind_at
initializers::designator-returns-in_default-kind_at t c =
    record { found = tt; only = element_left_open _ _ (element_opens c.args.kinds.now c.args.at _ c.kind_at.ensures.kind c.in_default.not-Dot c.requires.kind) _ _ _ c.in-Ok.ensures.found c.kind_at-2.ensures.kind c.in_default-kind_at.not-CloseBracket }

pub initializers::designator-returns : goal.initializers::designator-returns
initializers::designator-returns t c =
    let made = subst (λ x. FoundDesignator c.args.kinds.now c.args.at x (c.in-Ok.found.1 + 1)) (sym c.element.ensures) (element_found _ _ (element_opens c.args.kinds.now c.args.at _ c.kind_at.ensures.kind c.in_default.not-Dot c.requires.kind) _ _ c.in-Ok.ensures.found (sym c.in-CloseBracket.ensures.kind) c.in-CloseBracket.ensures.inside) in record { found = made; only = found_designator_only _ _ _ _ made }

pub initializers::designators-returns-then-not-is_designating-clause-found : goal.initializers::designators-returns-then-not-is_designating-clause-found
initializers::designators-returns-then-not-is_designating-clause-found t c =
    path_found _ _ _ _ c.designators.invariant

pub initializers::designators-returns-then-not-is_designating-clause-only : goal.initializers::designators-returns-then-not-is_designating-clause-only
initializers::designators-returns-then-not-is_designating-clause-only t c =
    path_only _ _ _ _ c.designators.invariant (ap is_designating (sym c.kind_at.ensures.kind) ∙ sym c.is_designating.ensures ∙ c.if-not-is_designating.true)

pub initializers::designators-returns-in-Err-clause-only : goal.initializers::designators-returns-in-Err-clause-only
initializers::designators-returns-in-Err-clause-only t c =
    path_fails _ _ _ _ c.designators.invariant (ap is_designating (sym c.kind_at.ensures.kind) ∙ sym c.is_designating.ensures ∙ c.if-not-is_designating.false) _ c.in-Err.ensures.only

pub initializers::designators-designators-preserved : goal.initializers::designators-designators-preserved
initializers::designators-designators-preserved t c =
    designators_push _ _ _ _ _ _ _ c.designators.invariant (ap is_designating (sym c.kind_at.ensures.kind) ∙ sym c.is_designating.ensures ∙ c.if-not-is_designating.false) c.in-Ok.ensures.found c.in-Ok.ensures.only c.in-Ok-push.ensures.items

pub initializers::init-returns-in-Ok : goal.initializers::init-returns-in-Ok
initializers::init-returns-in-Ok t c =
    record { found = subst (λ x. FoundInitial c.args.kinds.now c.args.at x c.in-Ok.end) (sym c.value.ensures) (value_found _ _ _ _ c.in-Ok.ensures.found); only = λ x end h s. let same = value_only _ _ _ _ c.in-Ok.ensures.found x end h s in (c.value.ensures ∙ same.0, same.1) }

pub initializers::init-returns-in-Err : goal.initializers::init-returns-in-Err
initializers::init-returns-in-Err t c =
    record { found = tt; only = init_fails _ _ _ c.kind_at.ensures.kind c.in_default.not-OpenBrace _ c.in-Err.ensures.only }

pub initializers::init-returns-in-Err-braces-clause-only : goal.initializers::init-returns-in-Err-braces-clause-only
initializers::init-returns-in-Err-braces-clause-only t c =
    list_fails _ _ (sym c.in-OpenBrace.ensures.kind) _ c.in-Err-braces.ensures.only

pub initializers::init-returns-in-Ok-list-clause-only : goal.initializers::init-returns-in-Ok-list-clause-only
initializers::init-returns-in-Ok-list-clause-only t c =
    λ x end h s. let same = list_only _ _ _ _ c.in-Ok-braces.ensures.found x end h s in (c.in-Ok-list.ensures ∙ same.0, same.1)

pub initializers::piece-returns-in-Ok-clause-only : goal.initializers::piece-returns-in-Ok-clause-only
initializers::piece-returns-in-Ok-clause-only t c =
    λ x end h s. let same = plain_only _ _ (ap is_designating (sym c.kind_at.ensures.kind) ∙ sym c.is_designating.ensures ∙ c.if-is_designating.false) _ _ c.in-Ok.ensures.only x end h s in (c.plain.ensures ∙ same.0, same.1)

pub initializers::piece-returns-in-Err-clause-only : goal.initializers::piece-returns-in-Err-clause-only
initializers::piece-returns-in-Err-clause-only t c =
    plain_fails _ _ (ap is_designating (sym c.kind_at.ensures.kind) ∙ sym c.is_designating.ensures ∙ c.if-is_designating.false) _ c.in-Err.ensures.only

pub initializers::pieces-returns-in_default : goal.initializers::pieces-returns-in_default
initializers::pieces-returns-in_default t c =
    record { found = row_found _ _ _ _ c.pieces.invariant; only = row_only _ _ _ _ _ c.pieces.invariant c.kind_at.ensures.kind c.in_default.not-Comma }

pub initializers::pieces-returns-in-CloseBrace-clause-found : goal.initializers::pieces-returns-in-CloseBrace-clause-found
initializers::pieces-returns-in-CloseBrace-clause-found t c =
    row_found_comma _ _ _ _ c.pieces.invariant (sym c.in-Comma.ensures.kind) c.in-Comma.ensures.inside

pub initializers::pieces-returns-in-CloseBrace-clause-only : goal.initializers::pieces-returns-in-CloseBrace-clause-only
initializers::pieces-returns-in-CloseBrace-clause-only t c =
    row_only_comma _ _ _ _ c.pieces.invariant (sym c.in-Comma.ensures.kind) (sym c.in-CloseBrace.ensures.kind)

pub initializers::pieces-returns-in-Err : goal.initializers::pieces-returns-in-Err
initializers::pieces-returns-in-Err t c =
    record { found = tt; only = row_fails _ _ _ _ c.pieces.invariant (sym c.in-Comma.ensures.kind) _ c.kind_at-in-pieces.ensures.kind c.in_default-kind_at.not-CloseBrace _ c.in-Err.ensures.only }

pub initializers::pieces-pieces-preserved : goal.initializers::pieces-pieces-preserved
initializers::pieces-pieces-preserved t c =
    pieces_push _ _ _ _ _ _ _ c.pieces.invariant (sym c.in-Comma.ensures.kind) _ c.kind_at-in-pieces.ensures.kind c.in_default-kind_at.not-CloseBrace c.in-Ok.ensures.found c.in-Ok.ensures.only c.in-Ok-push.ensures.items

pub selections::other-returns-in_default : goal.selections::other-returns-in_default
selections::other-returns-in_default t c =
    record { found = tt; only = default_unparted _ _ c.requires.kind _ c.kind_at.ensures.kind c.in_default.not-Colon }

pub selections::other-returns-in-Ok : goal.selections::other-returns-in-Ok
selections::other-returns-in-Ok t c =
    record { found = subst (λ x. FoundAssociation c.args.kinds.now c.args.at x c.in-Ok.end) (sym c.other.ensures) (default_found _ _ c.requires.kind (sym c.in-Colon.ensures.kind) _ _ c.in-Ok.ensures.found); only = λ x end h s. let same = default_only _ _ c.requires.kind (sym c.in-Colon.ensures.kind) _ _ c.in-Ok.ensures.found x end h s in (c.other.ensures ∙ same.0, same.1) }

pub selections::other-returns-in-Err : goal.selections::other-returns-in-Err
selections::other-returns-in-Err t c =
    record { found = tt; only = default_fails _ _ c.requires.kind _ c.in-Err.ensures.only }

pub selections::association-returns-in-Err : goal.selections::association-returns-in-Err
selections::association-returns-in-Err t c =
    record { found = tt; only = type_first_fails _ _ _ c.kind_at.ensures.kind c.in_default.not-Default _ c.in-Err.ensures.only }

pub selections::association-returns-in_default-kind_at : goal.selections::association-returns-in_default-kind_at
selections::association-returns-in_default-kind_at t c =
    record { found = tt; only = typed_unparted _ _ _ c.kind_at.ensures.kind c.in_default.not-Default _ _ c.in-Ok.ensures.only _ c.kind_at-2.ensures.kind c.in_default-kind_at.not-Colon }

pub selections::association-returns-in-Ok-typed : goal.selections::association-returns-in-Ok-typed
selections::association-returns-in-Ok-typed t c =
    record { found = subst (λ x. FoundAssociation c.args.kinds.now c.args.at x c.in-Ok-level.end) (sym c.in-Ok-typed.ensures) (typed_found _ _ _ _ c.in-Ok.ensures.found (sym c.in-Colon.ensures.kind) _ _ c.in-Ok-level.ensures.found); only = λ x end h s. let same = typed_only _ _ _ _ c.in-Ok.ensures.found (sym c.in-Colon.ensures.kind) _ _ c.in-Ok-level.ensures.found x end h s in (c.in-Ok-typed.ensures ∙ same.0, same.1) }

pub selections::association-returns-in-Err-level : goal.selections::association-returns-in-Err-level
selections::association-returns-in-Err-level t c =
    record { found = tt; only = typed_fails _ _ _ c.kind_at.ensures.kind c.in_default.not-Default _ _ c.in-Ok.ensures.only _ c.in-Err-level.ensures.only }

pub selections::associations-returns-in_default : goal.selections::associations-returns-in_default
selections::associations-returns-in_default t c =
    record { found = choices_found _ _ _ _ c.choices.invariant; only = choices_only _ _ _ _ _ c.choices.invariant c.kind_at.ensures.kind c.in_default.not-Comma }

pub selections::associations-returns-in-Err : goal.selections::associations-returns-in-Err
selections::associations-returns-in-Err t c =
    record { found = tt; only = choices_fail _ _ _ _ c.choices.invariant (sym c.in-Comma.ensures.kind) _ c.in-Err.ensures.only }

pub selections::associations-choices-preserved : goal.selections::associations-choices-preserved
selections::associations-choices-preserved t c =
    associations_push _ _ _ _ _ _ _ c.choices.invariant (sym c.in-Comma.ensures.kind) c.in-Ok.ensures.found c.in-Ok.ensures.only c.in-Ok-push.ensures.items

pub selections::generic-returns-in_default : goal.selections::generic-returns-in_default
selections::generic-returns-in_default t c =
    record { found = tt; only = generic_unopened _ _ c.requires.kind _ c.kind_at.ensures.kind c.in_default.not-OpenParen }

pub selections::generic-returns-in-Err : goal.selections::generic-returns-in-Err
selections::generic-returns-in-Err t c =
    record { found = tt; only = control_fails _ _ c.requires.kind _ c.in-Err.ensures.only }

pub selections::generic-returns-in_default-kind_at : goal.selections::generic-returns-in_default-kind_at
selections::generic-returns-in_default-kind_at t c =
    record { found = tt; only = nothing_chosen _ _ c.requires.kind _ _ c.in-Ok.ensures.found _ c.kind_at-2.ensures.kind c.in_default-kind_at.not-Comma }

pub selections::generic-returns-in-Err-associations : goal.selections::generic-returns-in-Err-associations
selections::generic-returns-in-Err-associations t c =
    record { found = tt; only = choices_of_fail _ _ c.requires.kind _ _ c.in-Ok.ensures.found _ c.in-Err-associations.ensures.only }

pub selections::generic-returns-in_default-kind_at-2 : goal.selections::generic-returns-in_default-kind_at-2
selections::generic-returns-in_default-kind_at-2 t c =
    record { found = tt; only = generic_left_open _ _ c.requires.kind _ _ c.in-Ok.ensures.found _ _ c.in-Ok-associations.ensures.only _ c.kind_at-3.ensures.kind c.in_default-kind_at-2.not-CloseParen }

pub selections::generic-returns-in-Ok-generic : goal.selections::generic-returns-in-Ok-generic
selections::generic-returns-in-Ok-generic t c =
    let made = subst (λ x. Found c.args.kinds.now 17 c.args.at x (c.in-Ok-associations.found.1 + 1)) (sym c.in-Ok-generic.ensures) (generic_found _ _ c.requires.kind (sym c.in-OpenParen.ensures.kind) _ _ c.in-Ok.ensures.found (sym c.in-Comma.ensures.kind) _ _ c.in-Ok-associations.ensures.found (sym c.in-CloseParen.ensures.kind) c.in-CloseParen.ensures.inside) in record { found = made; only = found_only _ _ _ _ _ (omega arith) made }

pub selections::steps-returns-then-not-is_designating : goal.selections::steps-returns-then-not-is_designating
selections::steps-returns-then-not-is_designating t c =
    record { found = steps_found _ _ _ _ c.steps.invariant; only = steps_only _ _ _ _ c.steps.invariant (ap is_designating (sym c.kind_at.ensures.kind) ∙ sym c.is_designating.ensures ∙ c.if-not-is_designating.true) }

pub selections::steps-returns-in-Err : goal.selections::steps-returns-in-Err
selections::steps-returns-in-Err t c =
    record { found = tt; only = steps_fail _ _ _ _ c.steps.invariant (ap is_designating (sym c.kind_at.ensures.kind) ∙ sym c.is_designating.ensures ∙ c.if-not-is_designating.false) _ c.in-Err.ensures.only }

pub selections::steps-steps-preserved : goal.selections::steps-steps-preserved
selections::steps-steps-preserved t c =
    steps_push _ _ _ _ _ _ _ c.steps.invariant (ap is_designating (sym c.kind_at.ensures.kind) ∙ sym c.is_designating.ensures ∙ c.if-not-is_designating.false) c.in-Ok.ensures.found c.in-Ok-push.ensures.items

pub selections::offset-returns-in_default : goal.selections::offset-returns-in_default
selections::offset-returns-in_default t c =
    record { found = tt; only = offset_unopened _ _ c.requires.kind _ c.kind_at.ensures.kind c.in_default.not-OpenParen }

pub selections::offset-returns-in-Err : goal.selections::offset-returns-in-Err
selections::offset-returns-in-Err t c =
    record { found = tt; only = offset_type_fails _ _ c.requires.kind _ c.in-Err.ensures.only }

pub selections::offset-returns-in_default-kind_at : goal.selections::offset-returns-in_default-kind_at
selections::offset-returns-in_default-kind_at t c =
    record { found = tt; only = offset_unparted _ _ c.requires.kind _ _ c.in-Ok.ensures.only _ c.kind_at-2.ensures.kind c.in_default-kind_at.not-Comma }

pub selections::offset-returns-then-not-is_word : goal.selections::offset-returns-then-not-is_word
selections::offset-returns-then-not-is_word t c =
    record { found = tt; only = offset_unnamed _ _ c.requires.kind _ _ c.in-Ok.ensures.only (ap is_word (sym c.kind_at-3.ensures.kind) ∙ sym c.is_word.ensures ∙ c.if-not-is_word.true) }

pub selections::offset-returns-in-Err-steps : goal.selections::offset-returns-in-Err-steps
selections::offset-returns-in-Err-steps t c =
    record { found = tt; only = offset_steps_fail _ _ c.requires.kind _ _ c.in-Ok.ensures.only _ c.in-Err-steps.ensures.only }

pub selections::offset-returns-in_default-kind_at-2 : goal.selections::offset-returns-in_default-kind_at-2
selections::offset-returns-in_default-kind_at-2 t c =
    record { found = tt; only = offset_left_open _ _ c.requires.kind _ _ c.in-Ok.ensures.only _ _ c.in-Ok-steps.ensures.only _ c.kind_at-4.ensures.kind c.in_default-kind_at-2.not-CloseParen }

pub selections::offset-returns-in-Ok-offset : goal.selections::offset-returns-in-Ok-offset
selections::offset-returns-in-Ok-offset t c =
    let made = subst (λ x. Found c.args.kinds.now 17 c.args.at x (c.in-Ok-steps.found.1 + 1)) (sym c.in-Ok-offset.ensures) (offset_found _ _ c.requires.kind (sym c.in-OpenParen.ensures.kind) _ _ c.in-Ok.ensures.found (sym c.in-Comma.ensures.kind) (ap is_word (sym c.kind_at-3.ensures.kind) ∙ sym c.is_word.ensures ∙ c.if-not-is_word.false) _ _ c.in-Ok-steps.ensures.found (sym c.in-CloseParen.ensures.kind) c.in-CloseParen.ensures.inside) in record { found = made; only = found_only _ _ _ _ _ (omega arith) made }

pub expressions::begun_with-returns-in-Err-compound-clause-none : goal.expressions::begun_with-returns-in-Err-compound-clause-none
expressions::begun_with-returns-in-Err-compound-clause-none t c =
    λ u end h s.
    fails_by_first
    _
    _
    _
    c.in-Err-compound.ensures.none
    u
    end
    (subst (λ x. Reads c.args.kinds.now 16 u (start_of x) end) c.in-Literal.is h)
    s

pub before::cast-returns-in-Err-clause-none : goal.before::cast-returns-in-Err-clause-none
before::cast-returns-in-Err-clause-none t c = cast_fails _ _ c.requires.kind _ c.in-Err.ensures.only

pub before::cast-returns-then-not-casts_at : goal.before::cast-returns-then-not-casts_at
before::cast-returns-then-not-casts_at t c = record {
  found = tt;
  none =
      casts_not
      _
      _
      _
      _
      _
      c.in-Ok.ensures.found
      c.kind_at.ensures.kind
      c.in_default.not-OpenBrace
      (sym c.casts_at.ensures ∙ c.if-not-casts_at.true)
      c.args.at;
}

pub before::cast-returns-in-Ok-cast : goal.before::cast-returns-in-Ok-cast
before::cast-returns-in-Ok-cast t c = record {
  found =
      subst
      (λ x. FoundFront c.args.kinds.now 15 c.args.at x (c.in-Ok.found.1 + 1))
      (sym c.in-Ok-cast.ensures)
      (cast_found
      _
      _
      _
      _
      (sym c.casts_at.ensures ∙ c.if-not-casts_at.false)
      c.in-Ok.ensures.found
      (λ x. c.in_default.not-OpenBrace (c.kind_at.ensures.kind ∙ x)));
  none = tt;
}

pub before::in_front-returns-then-is_prefix-clause-found : goal.before::in_front-returns-then-is_prefix-clause-found
before::in_front-returns-then-is_prefix-clause-found t c =
    subst
    (λ x. FoundFront c.args.kinds.now 15 c.args.at x (c.args.at + 1))
    (sym c.operator.ensures)
    (operator_found
    _
    _
    (ap is_prefix (sym c.kind_at.ensures.kind) ∙ sym c.is_prefix.ensures ∙ c.if-is_prefix.true)
    (sym c.size_at.ensures ∙ c.if-size_at.false))

pub before::prefixes-returns-in-Ok-Behind-clause-only : goal.before::prefixes-returns-in-Ok-Behind-clause-only
before::prefixes-returns-in-Ok-Behind-clause-only t c =
    prefixes_only
    _
    _
    _
    _
    c.in-Ok-Behind.begun
    c.prefixes.invariant
    (rw c.in-Ok-Behind.field-0-is at c.in-Ok-Behind.ensures.found).0
    (rw c.in-Ok-Behind.field-0-is at c.in-Ok-Behind.ensures.found).1

pub before::prefixes-returns-in-Ok-SizeOfLiteral-clause-found : goal.before::prefixes-returns-in-Ok-SizeOfLiteral-clause-found
before::prefixes-returns-in-Ok-SizeOfLiteral-clause-found t c =
    prefixes_end
    _
    _
    _
    _
    (Literal (c.prefixes.end + 1) c.in-Ok-SizeOfLiteral.name c.in-Ok-SizeOfLiteral.closing)
    (prefixes_push
    _
    _
    _
    _
    _
    _
    _
    c.prefixes.invariant
    (subst
    (λ x. FoundFront c.args.kinds.now 15 c.prefixes.end x (c.prefixes.end + 1))
    (sym c.operator.ensures)
    (rw c.in-Ok-SizeOfLiteral.field-0-is at c.in-Ok-SizeOfLiteral.ensures.found).1)
    c.in-Ok.ensures.items)
    refl

pub before::prefixes-returns-in-Ok-SizeOfLiteral-clause-only : goal.before::prefixes-returns-in-Ok-SizeOfLiteral-clause-only
before::prefixes-returns-in-Ok-SizeOfLiteral-clause-only t c =
    prefixes_only
    _
    _
    _
    _
    (Literal (c.prefixes.end + 1) c.in-Ok-SizeOfLiteral.name c.in-Ok-SizeOfLiteral.closing)
    (prefixes_push
    _
    _
    _
    _
    _
    _
    _
    c.prefixes.invariant
    (subst
    (λ x. FoundFront c.args.kinds.now 15 c.prefixes.end x (c.prefixes.end + 1))
    (sym c.operator.ensures)
    (rw c.in-Ok-SizeOfLiteral.field-0-is at c.in-Ok-SizeOfLiteral.ensures.found).1)
    c.in-Ok.ensures.items)
    refl
    (rw c.in-Ok-SizeOfLiteral.field-0-is at c.in-Ok-SizeOfLiteral.ensures.found).2

pub before::prefixes-returns-in-Err-clause-only : goal.before::prefixes-returns-in-Err-clause-only
before::prefixes-returns-in-Err-clause-only t c = prefixes_fail _ _ _ _ _ c.prefixes.invariant c.in-Err.ensures.none

pub before::prefixes-prefixes-preserved : goal.before::prefixes-prefixes-preserved
before::prefixes-prefixes-preserved t c = prefixes_push _ _ _ _ _ _ _ c.prefixes.invariant (rw c.in-Ok-Before.field-0-is at c.in-Ok-Before.ensures.found) c.in-Ok-push.ensures.items

pub before::size-returns-in-Err-clause-none : goal.before::size-returns-in-Err-clause-none
before::size-returns-in-Err-clause-none t c = size_fails _ _ c.requires.kind _ c.in-Err.ensures.only

pub before::size-returns-in_default : goal.before::size-returns-in_default
before::size-returns-in_default t c = record {
  found = (refl, size_begun _ _ _ _ _ c.requires.kind c.in-Ok.ensures.found c.kind_at.ensures.kind c.in_default.not-OpenBrace);
  none = tt;
}

pub before::size-returns-in_default-kind_at : goal.before::size-returns-in_default-kind_at
before::size-returns-in_default-kind_at t c = record {
  found = tt;
  none =
      align_fails
      _
      _
      c.requires.kind
      _
      _
      c.in-Ok.ensures.found
      (sym c.in-OpenBrace.ensures.kind)
      _
      c.kind_at-2.ensures.kind
      c.in_default-kind_at.not-SizeOf
      (c.in-Ok.found.1 + 1);
}

pub type_names::atomic-returns-in-Ok-atomic : goal.type_names::atomic-returns-in-Ok-atomic
type_names::atomic-returns-in-Ok-atomic t c = record {
  found = atomic_found _ _ _ _ _ c.requires.opens c.in-Ok-atomic.ensures c.in-Ok.ensures.found;
  only = λ u end h k.
      let same = c.in-Ok.ensures.only u end h k in (
        c.in-Ok-atomic.ensures
            ∙ ap (λ x. Atomic_of c.args.at (c.args.at + 1) x c.in-Ok.found.1) same.0
            ∙ ap (λ x. Atomic_of c.args.at (c.args.at + 1) u x) same.1,
        ap (λ x. x + 1) same.1,
      );
}

pub type_names::specifier-short_specifier-requires-clause-short : goal.type_names::specifier-short_specifier-requires-clause-short
type_names::specifier-short_specifier-requires-clause-short t c = sym c.atomic_opens.ensures ∙ c.if-not-atomic_opens.true

pub type_names::specifier-returns-in-Ok : goal.type_names::specifier-returns-in-Ok
type_names::specifier-returns-in-Ok t c = record {
  found = atomic_specified _ _ _ _ _ (sym c.atomic_opens.ensures ∙ c.if-not-atomic_opens.false) c.in-Ok.ensures.found;
  fails = tt;
}

pub type_names::specifier-returns-in-Err : goal.type_names::specifier-returns-in-Err
type_names::specifier-returns-in-Err t c = record {
  found = tt;
  fails = atomic_fails _ _ _ _ (sym c.atomic_opens.ensures ∙ c.if-not-atomic_opens.false) c.in-Err.ensures.only;
}

pub type_names::specifiers-returns-in-Ok-None : goal.type_names::specifiers-returns-in-Ok-None
type_names::specifiers-returns-in-Ok-None t c = record {
  found = specifiers_end _ _ _ _ _ _ c.specifiers.invariant;
  told = specifiers_told _ _ _ _ _ _ c.specifiers.invariant;
  only = specifiers_only _ _ _ _ _ _ c.specifiers.invariant (rw c.in-Ok-None.field-0-is at c.in-Ok-None.ensures.found);
}

pub type_names::specifiers-returns-in-Err : goal.type_names::specifiers-returns-in-Err
type_names::specifiers-returns-in-Err t c = record {
  found = tt;
  told = tt;
  only = specifiers_fail _ _ _ _ _ _ c.specifiers.invariant _ c.in-Err.ensures.fails;
}

pub type_names::specifiers-returns-then-stored_amiss : goal.type_names::specifiers-returns-then-stored_amiss
type_names::specifiers-returns-then-stored_amiss t c = record {
  found = tt;
  told = tt;
  only = specifiers_refused _ _ _ _ _ _ c.specifiers.invariant (sym c.stored_amiss.ensures ∙ c.if-stored_amiss.true) c.args.at;
}

pub type_names::specifiers-specifiers-preserved : goal.type_names::specifiers-specifiers-preserved
type_names::specifiers-specifiers-preserved t c =
    specifiers_push
    _
    _
    _
    _
    _
    _
    _
    _
    _
    _
    c.specifiers.invariant
    (sym c.stored_amiss.ensures ∙ c.if-stored_amiss.false)
    (rw c.in-Ok-Some.field-0-is at c.in-Ok-Some.ensures.found)
    c.in-Ok.ensures.items

pub type_names::specified-returns-in-Err : goal.type_names::specified-returns-in-Err
type_names::specified-returns-in-Err t c = record {
  found = tt;
  told = tt;
  only =
      specifiers_missing
      _
      _
      _
      _
      (subst (λ x. FailsSpecifiers c.args.kinds.now x c.args.at c.in-Err.stop) c.site_of.ensures c.in-Err.ensures.only);
}

pub type_names::specified-returns-then-is_empty : goal.type_names::specified-returns-then-is_empty
type_names::specified-returns-then-is_empty t c = record {
  found = tt;
  told = tt;
  only =
      none_specifying
      _
      _
      _
      _
      c.in-Ok.found.0.items
      (ap (λ xs. length xs == 0) (sym c.as_slice.ensures.value) ∙ sym c.if-is_empty.ensures)
      (subst (λ x. OnlySpecifiers c.args.kinds.now x c.args.at (specifyings (specifiers_of c.in-Ok.found.0.items) No_specifiers) c.in-Ok.found.2) c.site_of.ensures c.in-Ok.ensures.only);
}

pub type_names::specified-returns-in-Ok-declarator : goal.type_names::specified-returns-in-Ok-declarator
type_names::specified-returns-in-Ok-declarator t c =
    let is = c.new-in-Ok-declarator.ensures ∙ ap (λ x. Type_of x (declarator_of c.in-Ok-declarator.declarator)) c.new.ensures in
    let by = c.named_by.ensures ∙ ap (named_by c.args.named) c.in-Ok.ensures.told in
    record {
      found =
          subst
          (λ x. FoundNaming c.args.kinds.now c.args.named c.args.at x c.in-Ok-declarator.end)
          (sym is)
          (naming_found
          _
          _
          _
          _
          _
          _
          _
          (some_specifying
          c.in-Ok.found.0.items
          (ap (λ xs. length xs == 0) (sym c.as_slice.ensures.value) ∙ sym c.if-is_empty.ensures))
          (subst (λ x. FoundSpecifiers c.args.kinds.now x c.args.at (specifyings (specifiers_of c.in-Ok.found.0.items) No_specifiers) c.in-Ok.found.2) c.site_of.ensures c.in-Ok.ensures.found)
          _
          by
          c.in-Ok-declarator.ensures.found);
      told = c.in-Ok-declarator.ensures.told ∙ ap name_by (sym is);
      only = λ u end h e.
          let same = name_only _ _ _ _ _ _ _ (subst (λ x. OnlySpecifiers c.args.kinds.now x c.args.at (specifyings (specifiers_of c.in-Ok.found.0.items) No_specifiers) c.in-Ok.found.2) c.site_of.ensures c.in-Ok.ensures.only) _ by c.in-Ok-declarator.ensures.only u end h e in
          (is ∙ same.0, same.1);
    }

pub type_names::specified-returns-in-Err-declarator : goal.type_names::specified-returns-in-Err-declarator
type_names::specified-returns-in-Err-declarator t c = record {
  found = tt;
  told = tt;
  only =
      declarator_missing
      _
      _
      _
      _
      _
      (subst (λ x. OnlySpecifiers c.args.kinds.now x c.args.at (specifyings (specifiers_of c.in-Ok.found.0.items) No_specifiers) c.in-Ok.found.2) c.site_of.ensures c.in-Ok.ensures.only)
      _
      (c.named_by.ensures ∙ ap (named_by c.args.named) c.in-Ok.ensures.told)
      _
      c.in-Err-declarator.ensures.only;
}

pub declarators::group-returns-then-names_at : goal.declarators::group-returns-then-names_at
declarators::group-returns-then-names_at t c =
    let named = sym c.names_at.ensures ∙ c.if-names_at.true in
    let only = name_same _ c.args.named _ (name_stands _ _ _ named) in
    record {
      found =
          subst
          (λ x. FoundGrouping c.args.kinds.now c.args.named c.args.at x (c.args.at + 1))
          (sym c.named.ensures)
          (name_found _ _ _ named);
      told = ap name_in (sym c.named.ensures);
      only = λ g m ds end h i q e. let same = only g m ds end h i q e in (c.named.ensures ∙ same.0, same.1);
    }

pub declarators::group-returns-in_default : goal.declarators::group-returns-in_default
declarators::group-returns-in_default t c =
    let only =
    no_group
    _
    _
    _
    (name_stands_not _ _ _ (sym c.names_at.ensures ∙ c.if-names_at.false))
    (λ k. absurd (c.in_default.not-OpenParen (c.kind_at.ensures.kind ∙ k))) in
    record {
      found =
          subst
          (λ x. FoundGrouping c.args.kinds.now c.args.named c.args.at x c.args.at)
          (sym c.none.ensures)
          (record { reads = refl; forth = omega arith; inside = c.requires.inside });
      told = ap name_in (sym c.none.ensures);
      only = λ g m ds end h i q e. let same = only g m ds end h i q e in (c.none.ensures ∙ same.0, same.1);
    }

pub declarators::group-returns-then-opens_parameters : goal.declarators::group-returns-then-opens_parameters
declarators::group-returns-then-opens_parameters t c =
    let next = ap opens_parameters (sym c.kind_at-2.ensures.kind) ∙ sym c.opens_parameters.ensures ∙ c.if-opens_parameters.true in
    let only = no_group _ _ _ (name_stands_not _ _ _ (sym c.names_at.ensures ∙ c.if-names_at.false)) (λ k. next) in
    record {
      found =
          subst
          (λ x. FoundGrouping c.args.kinds.now c.args.named c.args.at x c.args.at)
          (sym c.none-then-opens_parameters.ensures)
          (record { reads = refl; forth = omega arith; inside = c.requires.inside });
      told = ap name_in (sym c.none-then-opens_parameters.ensures);
      only = λ g m ds end h i q e. let same = only g m ds end h i q e in (c.none-then-opens_parameters.ensures ∙ same.0, same.1);
    }

pub declarators::group-returns-in-Err : goal.declarators::group-returns-in-Err
declarators::group-returns-in-Err t c = record {
  found = tt;
  told = tt;
  only =
      group_fails
      _
      _
      _
      (sym c.in-OpenParen.ensures.kind)
      (ap opens_parameters (sym c.kind_at-2.ensures.kind) ∙ sym c.opens_parameters.ensures ∙ c.if-opens_parameters.false)
      _
      c.grouped.ensures
      _
      c.in-Err.ensures.only;
}

pub declarators::group-returns-in_default-kind_at : goal.declarators::group-returns-in_default-kind_at
declarators::group-returns-in_default-kind_at t c = record {
  found = tt;
  told = tt;
  only =
      group_left_open
      _
      _
      _
      (sym c.in-OpenParen.ensures.kind)
      (ap opens_parameters (sym c.kind_at-2.ensures.kind) ∙ sym c.opens_parameters.ensures ∙ c.if-opens_parameters.false)
      _
      _
      _
      c.grouped.ensures
      c.in-Ok.ensures.only
      (λ k. c.in_default-kind_at.not-CloseParen (c.kind_at-3.ensures.kind ∙ k))
      c.args.at;
}

pub declarators::group-returns-in-Ok-of : goal.declarators::group-returns-in-Ok-of
declarators::group-returns-in-Ok-of t c =
    let here = sym c.in-OpenParen.ensures.kind in
    let next = (ap opens_parameters (sym c.kind_at-2.ensures.kind) ∙ sym c.opens_parameters.ensures ∙ c.if-opens_parameters.false) in
    let only = group_same _ c.args.named _ here next _ _ _ c.grouped.ensures c.in-Ok.ensures.only in
    record {
      found =
          subst
          (λ x. FoundGrouping c.args.kinds.now c.args.named c.args.at x (c.in-Ok.found.2 + 1))
          (sym c.in-Ok-of.ensures)
          (group_found
          _
          _
          _
          here
          next
          _
          _
          _
          c.grouped.ensures
          c.in-Ok.ensures.found
          (sym c.in-CloseParen.ensures.kind)
          c.in-CloseParen.ensures.inside);
      told = c.in-Ok.ensures.told ∙ ap name_in (sym c.in-Ok-of.ensures);
      only = λ g m ds end h i q e. let same = only g m ds end h i q e in (c.in-Ok-of.ensures ∙ same.0, same.1);
    }

pub declarators::static_bound-returns-in-Err-level : goal.declarators::static_bound-returns-in-Err-level
declarators::static_bound-returns-in-Err-level t c = record {
  found = tt;
  only = static_fails _ _ c.requires.kind _ _ c.in-Ok.ensures.found _ c.in-Err-level.ensures.only;
}

pub declarators::static_bound-returns-in-Ok-static_sized : goal.declarators::static_bound-returns-in-Ok-static_sized
declarators::static_bound-returns-in-Ok-static_sized t c =
    let only = static_same _ _ c.requires.kind _ _ c.in-Ok.ensures.found _ _ c.in-Ok-level.ensures.only in
    record {
      found =
          subst
          (λ x. FoundBound c.args.kinds.now c.args.at x c.in-Ok-level.found.1)
          (sym c.in-Ok-static_sized.ensures)
          (static_found _ _ c.requires.kind _ _ c.in-Ok.ensures.found _ _ c.in-Ok-level.ensures.found);
      only = λ x end h e. let same = only x end h e in (c.in-Ok-static_sized.ensures ∙ same.0, same.1);
    }

pub declarators::bound_behind-returns-in-CloseBracket : goal.declarators::bound_behind-returns-in-CloseBracket
declarators::bound_behind-returns-in-CloseBracket t c =
    let only = unsized_same _ _ _ _ c.requires.found (sym c.in-CloseBracket.ensures.kind) in
    record {
      found =
          subst
          (λ x. FoundBound c.args.kinds.now c.args.at x c.args.behind)
          (sym c.unsized_by.ensures)
          (unsized_found _ _ _ _ c.requires.found);
      only = λ x end h e. let same = only x end h e in (c.unsized_by.ensures ∙ same.0, same.1);
    }

pub declarators::bound_behind-returns-in-Err : goal.declarators::bound_behind-returns-in-Err
declarators::bound_behind-returns-in-Err t c = record {
  found = tt;
  only =
      last_static_fails _ _ c.requires.unstatic _ _ c.requires.found (sym c.in-Static.ensures.kind) _ c.in-Err.ensures.only;
}

pub declarators::bound_behind-returns-in-Ok-sized_static : goal.declarators::bound_behind-returns-in-Ok-sized_static
declarators::bound_behind-returns-in-Ok-sized_static t c =
    let here = sym c.in-Static.ensures.kind in
    let only = last_static_same _ _ c.requires.unstatic _ _ c.requires.found here _ _ c.in-Ok.ensures.only in
    record {
      found =
          subst
          (λ x. FoundBound c.args.kinds.now c.args.at x c.in-Ok.found.1)
          (sym c.in-Ok-sized_static.ensures)
          (last_static_found _ _ c.requires.unstatic _ _ c.requires.found here _ _ c.in-Ok.ensures.found);
      only = λ x end h e. let same = only x end h e in (c.in-Ok-sized_static.ensures ∙ same.0, same.1);
    }

pub declarators::bound_behind-returns-in-Err-level : goal.declarators::bound_behind-returns-in-Err-level
declarators::bound_behind-returns-in-Err-level t c = record {
  found = tt;
  only =
      sized_fails
      _
      _
      c.requires.unstatic
      _
      _
      c.requires.found
      (record {
        sized = λ k. c.in_default.not-CloseBracket (c.kind_at.ensures.kind ∙ k);
        told = sym c.any_size_at.ensures ∙ c.if-any_size_at.false;
        plain = λ k. c.in_default-kind_at.not-Static (c.kind_at-2.ensures.kind ∙ k);
      })
      _
      c.in-Err-level.ensures.only;
}

pub declarators::bound_behind-returns-in-Ok-sized : goal.declarators::bound_behind-returns-in-Ok-sized
declarators::bound_behind-returns-in-Ok-sized t c =
    let only =
    sized_same
    _
    _
    c.requires.unstatic
    _
    _
    c.requires.found
    (record {
      sized = λ k. c.in_default.not-CloseBracket (c.kind_at.ensures.kind ∙ k);
      told = sym c.any_size_at.ensures ∙ c.if-any_size_at.false;
      plain = λ k. c.in_default-kind_at.not-Static (c.kind_at-2.ensures.kind ∙ k);
    })
    _
    _
    c.in-Ok-level.ensures.only in
    record {
      found =
          subst
          (λ x. FoundBound c.args.kinds.now c.args.at x c.in-Ok-level.found.1)
          (sym c.in-Ok-sized.ensures)
          (sized_found _ _ _ _ c.requires.found _ _ c.in-Ok-level.ensures.found);
      only = λ x end h e. let same = only x end h e in (c.in-Ok-sized.ensures ∙ same.0, same.1);
    }

pub declarators::bound_behind-returns-then-any_size_at : goal.declarators::bound_behind-returns-then-any_size_at
declarators::bound_behind-returns-then-any_size_at t c =
    let told = sym c.any_size_at.ensures ∙ c.if-any_size_at.true in
    let only = any_same _ _ _ _ c.requires.found told in
    record {
      found =
          subst
          (λ x. FoundBound c.args.kinds.now c.args.at x (c.args.behind + 1))
          (sym c.any_size.ensures)
          (any_found _ _ _ _ c.requires.found told);
      only = λ x end h e. let same = only x end h e in (c.any_size.ensures ∙ same.0, same.1);
    }

pub declarators::array-returns-in-Err : goal.declarators::array-returns-in-Err
declarators::array-returns-in-Err t c = record { found = tt; only = array_fails _ _ c.requires.kind _ c.in-Err.ensures.only }

pub declarators::array-returns-in_default : goal.declarators::array-returns-in_default
declarators::array-returns-in_default t c = record {
  found = tt;
  only =
      array_left_open
      _
      _
      c.requires.kind
      _
      _
      c.in-Ok.ensures.only
      (λ k. c.in_default.not-CloseBracket (c.kind_at.ensures.kind ∙ k))
      c.args.at;
}

pub declarators::array-returns : goal.declarators::array-returns
declarators::array-returns t c =
    let made =
    subst
    (λ x. FoundDeriving c.args.kinds.now c.args.at x (c.in-Ok.found.1 + 1))
    (sym c.array.ensures)
    (array_found
    _
    _
    c.requires.kind
    _
    _
    c.in-Ok.ensures.found
    (sym c.in-CloseBracket.ensures.kind)
    c.in-CloseBracket.ensures.inside) in
    record { found = made; only = found_deriving_only _ _ _ _ made }

pub declarators::array_or_function-returns-in_default : goal.declarators::array_or_function-returns-in_default
declarators::array_or_function-returns-in_default t c = record {
  found = tt;
  only =
      nothing_derives
      _
      _
      _
      c.kind_at.ensures.kind
      c.requires.kind
      c.in_default.not-OpenBracket
      c.in_default.not-OpenParen
      c.args.at;
}

pub declarators::derivings-returns-then-not-is_deriving : goal.declarators::derivings-returns-then-not-is_deriving
declarators::derivings-returns-then-not-is_deriving t c = record {
  found = derivings_found _ _ _ _ _ c.derivings.invariant;
  only =
      derivings_same
      _
      _
      _
      _
      _
      c.derivings.invariant
      (ap is_deriving (sym c.kind_at.ensures.kind) ∙ sym c.is_deriving.ensures ∙ c.if-not-is_deriving.true);
}

pub declarators::derivings-returns-in-Err : goal.declarators::derivings-returns-in-Err
declarators::derivings-returns-in-Err t c = record {
  found = tt;
  only =
      derivings_fail
      _
      _
      _
      _
      _
      c.derivings.invariant
      (ap is_deriving (sym c.kind_at.ensures.kind) ∙ sym c.is_deriving.ensures ∙ c.if-not-is_deriving.false)
      _
      c.in-Err.ensures.only;
}

pub declarators::derivings-returns-then-lacks_name : goal.declarators::derivings-returns-then-lacks_name
declarators::derivings-returns-then-lacks_name t c =
    let lacks = sym c.lacks_name.ensures ∙ c.if-lacks_name.true in
    record {
      found = tt;
      only =
          derivings_unnamed
          _
          _
          _
          _
          _
          c.derivings.invariant
          (ap is_deriving (sym c.kind_at.ensures.kind) ∙ sym c.is_deriving.ensures ∙ c.if-not-is_deriving.false)
          _
          _
          c.in-Ok.ensures.only
          (left_of (needs_name (deriving_of c.in-Ok.found.0)) (not c.args.declares) lacks)
          (not_named c.args.declares (right_of (needs_name (deriving_of c.in-Ok.found.0)) (not c.args.declares) lacks))
          c.args.at;
    }

pub declarators::derivings-derivings-preserved : goal.declarators::derivings-derivings-preserved
declarators::derivings-derivings-preserved t c =
    derivings_push
    _
    _
    _
    _
    _
    _
    _
    _
    c.derivings.invariant
    (ap is_deriving (sym c.kind_at.ensures.kind) ∙ sym c.is_deriving.ensures ∙ c.if-not-is_deriving.false)
    c.in-Ok.ensures.found
    c.in-Ok.ensures.only
    (named_or (needs_name (deriving_of c.in-Ok.found.0)) c.args.declares (sym c.lacks_name.ensures ∙ c.if-lacks_name.false))
    c.in-Ok-push.ensures.items

pub declarators::declarator-returns-in-Err-group : goal.declarators::declarator-returns-in-Err-group
declarators::declarator-returns-in-Err-group t c = record {
  found = tt;
  told = tt;
  only =
      group_missing
      _
      _
      _
      _
      _
      c.in-Ok.ensures.found
      _
      (c.behind-which.ensures ∙ ap (behind_pointers c.args.named) c.as_slice.ensures.value ∙ behind_mapped pointing c.args.named c.in-Ok.found.0.items)
      _
      c.in-Err-group.ensures.only;
}

pub declarators::declarator-returns-in-Err-derivings : goal.declarators::declarator-returns-in-Err-derivings
declarators::declarator-returns-in-Err-derivings t c = record {
  found = tt;
  told = tt;
  only =
      derivings_missing
      _
      _
      _
      _
      _
      c.in-Ok.ensures.found
      _
      _
      _
      (c.behind-which.ensures ∙ ap (behind_pointers c.args.named) c.as_slice.ensures.value ∙ behind_mapped pointing c.args.named c.in-Ok.found.0.items)
      c.in-Ok-group.ensures.only
      _
      (c.is_some.ensures ∙ ap is_some c.in-Ok-group.ensures.told)
      _
      c.in-Err-derivings.ensures.only;
}

pub declarators::declarator-returns-in-Ok-derivings : goal.declarators::declarator-returns-in-Ok-derivings
declarators::declarator-returns-in-Ok-derivings t c =
    let by = c.behind-which.ensures ∙ ap (behind_pointers c.args.named) c.as_slice.ensures.value ∙ behind_mapped pointing c.args.named c.in-Ok.found.0.items in
    let named = c.is_some.ensures ∙ ap is_some c.in-Ok-group.ensures.told in
    let only =
    declaring_same
    _
    _
    _
    _
    _
    c.in-Ok.ensures.found
    _
    _
    _
    by
    c.in-Ok-group.ensures.only
    _
    named
    _
    _
    c.in-Ok-derivings.ensures.only in
    record {
      found =
          subst
          (λ x. FoundDeclaring c.args.kinds.now c.args.named c.args.at x c.in-Ok-derivings.end)
          (sym c.new.ensures)
          (declaring_found
          _
          _
          _
          _
          _
          c.in-Ok.ensures.found
          _
          _
          _
          by
          c.in-Ok-group.ensures.found
          _
          named
          _
          _
          c.in-Ok-derivings.ensures.found);
      told = c.in-Ok-group.ensures.told ∙ ap name_of (sym c.new.ensures);
      only = λ d end h e. let same = only d end h e in (c.new.ensures ∙ same.0, same.1);
    }

pub type_names::atomic-typed-requires : goal.type_names::atomic-typed-requires
type_names::atomic-typed-requires t c =
    let here : c.args.at + 1 < length c.args.kinds.now = opens_inside _ _ c.requires.opens in (
      omega (arith, c.decreases, here),
      (c.requires.size, (here, opens_next _ _ c.requires.opens)),
    )

pub before::cast-typed-requires : goal.before::cast-typed-requires
before::cast-typed-requires t c =
    let here : c.args.at < length c.args.kinds.now = type_inside _ _ c.requires.kind in (
      omega (arith, c.decreases, here),
      (c.requires.size, (here, type_opens _ _ c.requires.kind)),
    )

pub before::size-typed-requires : goal.before::size-typed-requires
before::size-typed-requires t c =
    let here : c.args.at + 1 < length c.args.kinds.now = size_inside _ _ c.requires.kind in (
      omega (arith, c.decreases, here),
      (c.requires.size, (here, type_opens _ _ (size_typed _ _ c.requires.kind))),
    )

pub declarators::parameter_row-returns-in_default : goal.declarators::parameter_row-returns-in_default
declarators::parameter_row-returns-in_default t c =
    let found = parameter_row_found _ _ _ _ _ c.parameters.invariant (λ k. absurd (c.in_default.not-Comma (c.kind_at.ensures.kind ∙ k))) in
    let only = parameter_row_same _ _ _ _ _ c.parameters.invariant (λ k. absurd (c.in_default.not-Comma (c.kind_at.ensures.kind ∙ k))) in
    record { found = λ ks is. row_found_under _ ks is _ _ _ found; only = λ ks is. row_only_under _ ks is _ _ _ only }

pub declarators::parameter_row-returns-in-Ellipsis : goal.declarators::parameter_row-returns-in-Ellipsis
declarators::parameter_row-returns-in-Ellipsis t c =
    let found = parameter_row_found _ _ _ _ _ c.parameters.invariant (λ k. sym c.in-Ellipsis.ensures.kind) in
    let only = parameter_row_same _ _ _ _ _ c.parameters.invariant (λ k. sym c.in-Ellipsis.ensures.kind) in
    record { found = λ ks is. row_found_under _ ks is _ _ _ found; only = λ ks is. row_only_under _ ks is _ _ _ only }

pub declarators::parameter_row-returns-in-Err : goal.declarators::parameter_row-returns-in-Err
declarators::parameter_row-returns-in-Err t c =
    let fails =
    parameter_row_fails
    _
    _
    _
    _
    _
    c.parameters.invariant
    (sym c.in-Comma.ensures.kind)
    (λ k. c.in_default-kind_at.not-Ellipsis (c.kind_at-in-parameters.ensures.kind ∙ k))
    _
    c.in-Err.ensures.only in
    record { found = λ ks is. tt; only = λ ks is. row_fails_under _ ks is _ _ fails }

pub declarators::parameter_row-parameters-preserved : goal.declarators::parameter_row-parameters-preserved
declarators::parameter_row-parameters-preserved t c =
    parameter_row_push
    _
    _
    _
    _
    _
    _
    _
    _
    c.parameters.invariant
    (sym c.in-Comma.ensures.kind)
    (λ k. c.in_default-kind_at.not-Ellipsis (c.kind_at-in-parameters.ensures.kind ∙ k))
    c.in-Ok.ensures.found
    c.in-Ok.ensures.only
    _
    (c.in-Ok-hide.ensures ∙ ap (hide c.parameters.inner) c.in-Ok.ensures.told)
    c.in-Ok-push.ensures.items

pub declarators::more_parameters-returns-in-Ok : goal.declarators::more_parameters-returns-in-Ok
declarators::more_parameters-returns-in-Ok t c = record {
  found = c.parameter_row.ensures.found _ c.in-Ok.ensures.given;
  only = c.parameter_row.ensures.only _ c.in-Ok.ensures.given;
}

pub declarators::parameter_row-parameters-init : goal.declarators::parameter_row-parameters-init
declarators::parameter_row-parameters-init t c =
    rowing_start_with _ _ _ c.new-more.ensures.items c.requires.inside

pub declarators::parameter_row-specified-requires : goal.declarators::parameter_row-specified-requires
declarators::parameter_row-specified-requires t c =
    let same = c.parameters.invariant.same in
    let forth = c.parameters.invariant.forth in
    let here = c.in-Comma.ensures.inside in (
      omega (arith, c.decreases, same, forth, here),
      (subst (λ n. n ≤ 2000000) (sym same) c.requires.size, omega (arith, here)),
    )

pub declarators::parameter_row-parameters-smaller : goal.declarators::parameter_row-parameters-smaller
declarators::parameter_row-parameters-smaller t c =
    let same : length c.in-Ok-hide.further ≡ length c.parameters.inner =
    ap (λ xs. length xs) c.in-Ok-hide.ensures ∙ hidden_length c.parameters.inner c.in-Ok.found.1 in
    let one = c.in-Ok.ensures.found.forth in
    let two = c.in-Ok.ensures.found.inside in
    omega (arith, same, one, two)

pub declarators::more_parameters-parameter_row-requires : goal.declarators::more_parameters-parameter_row-requires
declarators::more_parameters-parameter_row-requires t c =
    let same : length c.in-Ok.inner ≡ length c.args.kinds.now =
    ap (λ xs. length xs) c.in-Ok.ensures.given ∙ hidden_length c.args.kinds.now c.args.name in (
      omega (arith, c.decreases, same),
      (subst (λ n. n ≤ 2000000) (sym same) c.requires.size, subst (λ n. c.args.at ≤ n) (sym same) c.requires.inside),
    )

pub declarators::parameters-returns-in-CloseParen : goal.declarators::parameters-returns-in-CloseParen
declarators::parameters-returns-in-CloseParen t c =
    let only = none_same _ _ (sym c.in-CloseParen.ensures.kind) in
    record {
      found =
          subst
          (λ x. FoundParameters c.args.kinds.now c.args.at x c.args.at)
          (sym c.none.ensures)
          (record { reads = refl; forth = omega arith; inside = c.requires.inside });
      only = λ ps end h e. let same = only ps end h e in (c.none.ensures ∙ same.0, same.1);
    }

pub declarators::parameters-returns-in-Err : goal.declarators::parameters-returns-in-Err
declarators::parameters-returns-in-Err t c = record {
  found = tt;
  only = first_missing _ _ (λ k. c.in_default.not-CloseParen (c.kind_at.ensures.kind ∙ k)) (λ k. c.in_default-kind_at.not-Identifier (c.kind_at-2.ensures.kind ∙ k)) _ c.in-Err.ensures.only;
}

pub declarators::parameters-returns-in-Err-more_parameters : goal.declarators::parameters-returns-in-Err-more_parameters
declarators::parameters-returns-in-Err-more_parameters t c = record {
  found = tt;
  only = rest_missing _ _ (λ k. c.in_default.not-CloseParen (c.kind_at.ensures.kind ∙ k)) (λ k. c.in_default-kind_at.not-Identifier (c.kind_at-2.ensures.kind ∙ k)) _ _ c.in-Ok.ensures.only _ (ap (hide c.args.kinds.now) c.in-Ok.ensures.told) _ c.in-Err-more_parameters.ensures.only;
}

pub declarators::parameters-returns-in-Ok-fixed : goal.declarators::parameters-returns-in-Ok-fixed
declarators::parameters-returns-in-Ok-fixed t c =
    let only =
    fixed_same
    _
    _
    (λ k. c.in_default.not-CloseParen (c.kind_at.ensures.kind ∙ k))
    (λ k. c.in_default-kind_at.not-Identifier (c.kind_at-2.ensures.kind ∙ k))
    _
    _
    c.in-Ok.ensures.only
    _
    (ap (hide c.args.kinds.now) c.in-Ok.ensures.told)
    _
    _
    c.in-Ok-more_parameters.ensures.only
    (λ k. c.in_default-kind_at-2.not-Comma (c.kind_at-3.ensures.kind ∙ k)) in
    record {
      found =
          subst
          (λ x. FoundParameters c.args.kinds.now c.args.at x c.in-Ok-more_parameters.found.1)
          (sym c.in-Ok-fixed.ensures)
          (fixed_found _ _ _ _ c.in-Ok.ensures.found _ (ap (hide c.args.kinds.now) c.in-Ok.ensures.told) _ _ c.in-Ok-more_parameters.ensures.found);
      only = λ ps end h e. let same = only ps end h e in (c.in-Ok-fixed.ensures ∙ same.0, same.1);
    }

pub declarators::parameters-returns-in-Ok-variadic : goal.declarators::parameters-returns-in-Ok-variadic
declarators::parameters-returns-in-Ok-variadic t c =
    let only =
    variadic_same
    _
    _
    (λ k. c.in_default.not-CloseParen (c.kind_at.ensures.kind ∙ k))
    (λ k. c.in_default-kind_at.not-Identifier (c.kind_at-2.ensures.kind ∙ k))
    _
    _
    c.in-Ok.ensures.only
    _
    (ap (hide c.args.kinds.now) c.in-Ok.ensures.told)
    _
    _
    c.in-Ok-more_parameters.ensures.only
    (sym c.in-Comma.ensures.kind) in
    record {
      found =
          subst
          (λ x. FoundParameters c.args.kinds.now c.args.at x (c.in-Ok-more_parameters.found.1 + 2))
          (sym c.in-Ok-variadic.ensures)
          (variadic_found _ _ _ _ c.in-Ok.ensures.found _ (ap (hide c.args.kinds.now) c.in-Ok.ensures.told) _ _ c.in-Ok-more_parameters.ensures.found (sym c.in-Comma.ensures.kind));
      only = λ ps end h e. let same = only ps end h e in (c.in-Ok-variadic.ensures ∙ same.0, same.1);
    }

pub declarators::function-returns-in-Err : goal.declarators::function-returns-in-Err
declarators::function-returns-in-Err t c = record { found = tt; only = function_fails _ _ c.requires.kind _ c.in-Err.ensures.only }

pub declarators::function-returns-in_default : goal.declarators::function-returns-in_default
declarators::function-returns-in_default t c = record {
  found = tt;
  only =
      function_left_open
      _
      _
      c.requires.kind
      _
      _
      c.in-Ok.ensures.only
      (λ k. c.in_default.not-CloseParen (c.kind_at.ensures.kind ∙ k))
      c.args.at;
}

pub declarators::function-returns : goal.declarators::function-returns
declarators::function-returns t c =
    let made =
    subst
    (λ x. FoundDeriving c.args.kinds.now c.args.at x (c.in-Ok.found.1 + 1))
    (sym c.function.ensures)
    (function_found
    _
    _
    c.requires.kind
    _
    _
    c.in-Ok.ensures.found
    (sym c.in-CloseParen.ensures.kind)
    c.in-CloseParen.ensures.inside
    (sym c.bars.ensures ∙ c.if-bars.false)) in
    record { found = made; only = found_deriving_only _ _ _ _ made }

pub declarators::function-returns-then-bars : goal.declarators::function-returns-then-bars
declarators::function-returns-then-bars t c = record {
  found = tt;
  only =
      function_barred
      _
      _
      c.requires.kind
      _
      _
      c.in-Ok.ensures.only
      (sym c.bars.ensures ∙ c.if-bars.true)
      c.args.at;
}

pub members::direct-returns-then-names_it : goal.members::direct-returns-then-names_it
members::direct-returns-then-names_it t c =
    let word = sym c.names_it.ensures ∙ c.if-names_it.true in
    let only = named.name_same _ c.args.plain _ word in
    record {
      found =
          subst
          (λ x. FoundDirect c.args.kinds.now c.args.plain c.args.at x (c.args.at + 1))
          (sym c.named.ensures)
          (named.name_found _ _ _ word);
      told = ap name_in c.named.ensures;
      only = λ g m h. let same = only g m h in (c.named.ensures ∙ same.0, same.1);
    }

pub members::direct-returns-in_default : goal.members::direct-returns-in_default
members::direct-returns-in_default t c = record {
  found = tt;
  told = tt;
  only =
      named.nothing_direct
      _
      _
      _
      (sym c.names_it.ensures ∙ c.if-names_it.false)
      (λ k. c.in_default.not-OpenParen (c.kind_at.ensures.kind ∙ k))
      c.args.at;
}

pub members::direct-returns-in-Err : goal.members::direct-returns-in-Err
members::direct-returns-in-Err t c = record {
  found = tt;
  told = tt;
  only = named.direct_fails _ _ _ (sym c.in-OpenParen.ensures.kind) _ c.in-Err.ensures.only;
}

pub members::direct-returns-in_default-kind_at : goal.members::direct-returns-in_default-kind_at
members::direct-returns-in_default-kind_at t c = record {
  found = tt;
  told = tt;
  only =
      named.direct_left_open
      _
      _
      _
      (sym c.in-OpenParen.ensures.kind)
      _
      _
      c.in-Ok.ensures.only
      (λ k. c.in_default-kind_at.not-CloseParen (c.kind_at-2.ensures.kind ∙ k))
      c.args.at;
}

pub members::direct-returns-in-Ok-of : goal.members::direct-returns-in-Ok-of
members::direct-returns-in-Ok-of t c =
    let here = sym c.in-OpenParen.ensures.kind in
    let only = named.direct_same _ c.args.plain _ here _ _ c.in-Ok.ensures.only in
    record {
      found =
          subst
          (λ x. FoundDirect c.args.kinds.now c.args.plain c.args.at x (c.in-Ok.found.2 + 1))
          (sym c.in-Ok-of.ensures)
          (named.direct_found _ _ _ here _ _ c.in-Ok.ensures.found (sym c.in-CloseParen.ensures.kind) c.in-CloseParen.ensures.inside);
      told = ap name_in c.in-Ok-of.ensures ∙ c.in-Ok.ensures.told;
      only = λ g m h. let same = only g m h in (c.in-Ok-of.ensures ∙ same.0, same.1);
    }

pub members::declared-returns-in-Err-direct : goal.members::declared-returns-in-Err-direct
members::declared-returns-in-Err-direct t c = record {
  found = tt;
  told = tt;
  only =
      named.direct_missing
      _
      _
      _
      _
      _
      c.in-Ok.ensures.found
      _
      (c.plain_behind-which.ensures ∙ ap (λ ps. plain_behind c.args.plain (pointers_of ps)) c.as_slice.ensures.value)
      _
      c.in-Err-direct.ensures.only;
}

pub members::declared-returns-in-Err-derivings : goal.members::declared-returns-in-Err-derivings
members::declared-returns-in-Err-derivings t c = record {
  found = tt;
  told = tt;
  only =
      named.derived_missing
      _
      _
      _
      _
      _
      c.in-Ok.ensures.found
      _
      _
      _
      (c.plain_behind-which.ensures ∙ ap (λ ps. plain_behind c.args.plain (pointers_of ps)) c.as_slice.ensures.value)
      c.in-Ok-direct.ensures.only
      _
      c.in-Err-derivings.ensures.only;
}

pub members::declared-returns-in-Ok-derivings : goal.members::declared-returns-in-Ok-derivings
members::declared-returns-in-Ok-derivings t c =
    let by = c.plain_behind-which.ensures ∙ ap (λ ps. plain_behind c.args.plain (pointers_of ps)) c.as_slice.ensures.value in
    let only =
    named.declarator_same
    _
    c.args.plain
    _
    _
    _
    c.in-Ok.ensures.found
    _
    _
    _
    by
    c.in-Ok-direct.ensures.only
    _
    _
    c.in-Ok-derivings.ensures.only in
    record {
      found =
          subst
          (λ x. FoundDeclarator c.args.kinds.now c.args.plain c.args.at x c.in-Ok-derivings.end)
          (sym c.new.ensures)
          (named.declarator_found
          _
          _
          _
          _
          _
          c.in-Ok.ensures.found
          _
          _
          _
          by
          c.in-Ok-direct.ensures.found
          _
          _
          c.in-Ok-derivings.ensures.found);
      told = ap name_of c.new.ensures ∙ c.in-Ok-direct.ensures.told;
      only = λ d end h e. let same = only d end h e in (c.new.ensures ∙ same.0, same.1);
    }

pub members::assertion-returns-in_default-clause-only : goal.members::assertion-returns-in_default-clause-only
members::assertion-returns-in_default-clause-only t c = asserts.unopened _ _ (λ k. c.in_default.not-OpenParen (c.kind_at.ensures.kind ∙ k)) 0

pub members::assertion-returns-in-Err-clause-only : goal.members::assertion-returns-in-Err-clause-only
members::assertion-returns-in-Err-clause-only t c = asserts.condition_fails _ _ _ c.in-Err.ensures.only

pub members::assertion-returns-in_default-kind_at-clause-only : goal.members::assertion-returns-in_default-kind_at-clause-only
members::assertion-returns-in_default-kind_at-clause-only t c =
    asserts.no_comma _ _ _ _ c.in-Ok.ensures.only (λ k. c.in_default-kind_at.not-Comma (c.kind_at-2.ensures.kind ∙ k)) 0

pub members::assertion-returns-then-closing-comma-clause-only : goal.members::assertion-returns-then-closing-comma-clause-only
members::assertion-returns-then-closing-comma-clause-only t c =
    asserts.no_text _ _ _ _ c.in-Ok.ensures.only _ _ c.in-Ok-pieces.ensures.found (omega (arith, c.if-closing-comma.true)) 0

pub members::assertion-returns-in_default-kind_at-2-clause-only : goal.members::assertion-returns-in_default-kind_at-2-clause-only
members::assertion-returns-in_default-kind_at-2-clause-only t c =
    asserts.unclosed
    _
    _
    _
    _
    c.in-Ok.ensures.only
    _
    _
    c.in-Ok-pieces.ensures.found
    (λ k. c.in_default-kind_at-2.not-CloseParen (c.kind_at-3.ensures.kind ∙ k))
    0

pub members::assertion-returns-in_default-kind_at-3-clause-only : goal.members::assertion-returns-in_default-kind_at-3-clause-only
members::assertion-returns-in_default-kind_at-3-clause-only t c =
    asserts.unended
    _
    _
    _
    _
    c.in-Ok.ensures.only
    _
    _
    c.in-Ok-pieces.ensures.found
    (λ k. c.in_default-kind_at-3.not-Semicolon (c.kind_at-4.ensures.kind ∙ k))
    0

pub members::assertion-returns : goal.members::assertion-returns
members::assertion-returns t c =
    let only = asserts.assertion_same _ c.args.at _ _ c.in-Ok.ensures.only _ _ c.in-Ok-pieces.ensures.found in
    record {
      found =
          subst
          (λ y. FoundAssertion c.args.kinds.now c.args.at y (c.in-Ok-pieces.found.1 + 2))
          (sym c.new.ensures)
          (asserts.assertion_found
          _
          _
          c.requires.kind
          (sym c.in-OpenParen.ensures.kind)
          _
          _
          c.in-Ok.ensures.found
          (sym c.in-Comma.ensures.kind)
          _
          _
          c.in-Ok-pieces.ensures.found
          (omega (arith, c.if-closing-comma.false))
          (sym c.in-CloseParen.ensures.kind)
          (sym c.in-Semicolon.ensures.kind)
          c.in-Semicolon.ensures.inside);
      only = subst (λ y. asserts.OnlyAssertion c.args.kinds.now c.args.at y (c.in-Ok-pieces.found.1 + 2)) (sym c.new.ensures) only;
    }

pub members::padding-returns-in-Ok : goal.members::padding-returns-in-Ok
members::padding-returns-in-Ok t c = record {
  found =
      subst
      (λ x. FoundField c.args.kinds.now c.args.plain c.args.at x c.in-Ok.end)
      (sym c.padding.ensures)
      (padding_found _ _ _ c.requires.kind _ _ c.in-Ok.ensures.found);
  only =
      subst
      (λ x. OnlyField c.args.kinds.now c.args.plain c.args.at x c.in-Ok.end)
      (sym c.padding.ensures)
      (padding_same _ _ _ c.requires.kind _ _ c.in-Ok.ensures.only);
}

pub members::padding-returns-in-Err : goal.members::padding-returns-in-Err
members::padding-returns-in-Err t c = record { found = tt; only = padding_fails _ _ _ c.requires.kind _ c.in-Err.ensures.only }

pub members::field-padding-requires : goal.members::field-padding-requires
members::field-padding-requires t c =
    (omega (arith, c.decreases), (c.requires.size, (c.in-Colon.ensures.inside, sym c.in-Colon.ensures.kind)))

pub members::field-returns-in-Err : goal.members::field-returns-in-Err
members::field-returns-in-Err t c = record {
  found = tt;
  only = no_declarator _ _ _ (λ k. c.in_default.not-Colon (c.kind_at.ensures.kind ∙ k)) _ c.in-Err.ensures.only;
}

pub members::field-returns-in_default-kind_at : goal.members::field-returns-in_default-kind_at
members::field-returns-in_default-kind_at t c = record {
  found =
      subst
      (λ x. FoundField c.args.kinds.now c.args.plain c.args.at x c.in-Ok.found.2)
      (sym c.declared-in_default-kind_at.ensures)
      (declared_found _ _ _ _ _ c.in-Ok.ensures.found);
  only =
      subst
      (λ x. OnlyField c.args.kinds.now c.args.plain c.args.at x c.in-Ok.found.2)
      (sym c.declared-in_default-kind_at.ensures)
      (declared_same
      _
      _
      _
      (λ k. c.in_default.not-Colon (c.kind_at.ensures.kind ∙ k))
      _
      _
      c.in-Ok.ensures.only
      (λ k. c.in_default-kind_at.not-Colon (c.kind_at-2.ensures.kind ∙ k)));
}

pub members::field-returns-in-Ok-level : goal.members::field-returns-in-Ok-level
members::field-returns-in-Ok-level t c =
    let here = sym c.in-Colon-kind_at.ensures.kind in
    record {
      found =
          subst
          (λ x. FoundField c.args.kinds.now c.args.plain c.args.at x c.in-Ok-level.end)
          (sym c.bits.ensures)
          (bits_found _ _ _ _ _ c.in-Ok.ensures.found here _ _ c.in-Ok-level.ensures.found);
      only =
          subst
          (λ x. OnlyField c.args.kinds.now c.args.plain c.args.at x c.in-Ok-level.end)
          (sym c.bits.ensures)
          (bits_same
          _
          _
          _
          (λ k. c.in_default.not-Colon (c.kind_at.ensures.kind ∙ k))
          _
          _
          c.in-Ok.ensures.only
          here
          _
          _
          c.in-Ok-level.ensures.only);
    }

pub members::field-returns-in-Err-level : goal.members::field-returns-in-Err-level
members::field-returns-in-Err-level t c = record {
  found = tt;
  only =
      width_fails
      _
      _
      _
      (λ k. c.in_default.not-Colon (c.kind_at.ensures.kind ∙ k))
      _
      _
      c.in-Ok.ensures.only
      (sym c.in-Colon-kind_at.ensures.kind)
      _
      c.in-Err-level.ensures.only;
}

pub members::more_fields-fields-init : goal.members::more_fields-fields-init
members::more_fields-fields-init t c = fielding_start_with _ _ _ c.new-more.ensures.items c.requires.inside

pub members::more_fields-returns-in_default : goal.members::more_fields-returns-in_default
members::more_fields-returns-in_default t c = record {
  found = fielding_end _ _ _ _ c.fields.invariant (λ k. c.in_default.not-Comma (c.kind_at.ensures.kind ∙ k));
  only = fielding_only _ _ _ _ c.fields.invariant (λ k. c.in_default.not-Comma (c.kind_at.ensures.kind ∙ k));
}

pub members::more_fields-returns-in-Err : goal.members::more_fields-returns-in-Err
members::more_fields-returns-in-Err t c =
    record { found = tt; only = fielding_fails _ _ _ _ c.fields.invariant (sym c.in-Comma.ensures.kind) _ c.in-Err.ensures.only }

pub members::more_fields-fields-preserved : goal.members::more_fields-fields-preserved
members::more_fields-fields-preserved t c =
    fielding_push
    _
    _
    _
    _
    _
    c.fields.invariant
    (sym c.in-Comma.ensures.kind)
    _
    _
    c.in-Ok.ensures.found
    c.in-Ok.ensures.only
    c.in-Ok-push.ensures.items

pub members::fields-returns-in-Err : goal.members::fields-returns-in-Err
members::fields-returns-in-Err t c = record { found = tt; fails = first_field_fails _ _ _ _ c.in-Err.ensures.only }

pub members::fields-returns-in-Err-more_fields : goal.members::fields-returns-in-Err-more_fields
members::fields-returns-in-Err-more_fields t c =
    record { found = tt; fails = rest_fails _ _ _ _ _ c.in-Ok.ensures.only _ c.in-Err-more_fields.ensures.only }

pub members::fields-returns-in_default : goal.members::fields-returns-in_default
members::fields-returns-in_default t c = record {
  found = tt;
  fails =
      list_unended
      _
      _
      _
      _
      _
      c.in-Ok.ensures.only
      _
      _
      c.in-Ok-more_fields.ensures.only
      (λ k. c.in_default.not-Semicolon (c.kind_at.ensures.kind ∙ k))
      c.args.at;
}

pub members::fields-returns : goal.members::fields-returns
members::fields-returns t c = record {
  found =
      list_found
      _
      _
      _
      _
      _
      c.in-Ok.ensures.found
      _
      _
      c.in-Ok-more_fields.ensures.found
      (sym c.in-Semicolon.ensures.kind)
      c.in-Semicolon.ensures.inside;
  fails = tt;
}

pub members::specified_member-returns-in-Err : goal.members::specified_member-returns-in-Err
members::specified_member-returns-in-Err t c = record { found = tt; fails = specs_fail _ _ c.requires.other _ c.in-Err.ensures.only }

pub members::specified_member-returns-then-is_empty : goal.members::specified_member-returns-then-is_empty
members::specified_member-returns-then-is_empty t c = record {
  found = tt;
  fails =
      no_specs
      _
      _
      c.requires.other
      _
      c.in-Ok.found.0.items
      (ap (λ xs. length xs == 0) (sym c.as_slice.ensures.value) ∙ sym c.if-is_empty.ensures)
      c.in-Ok.ensures.only
      c.args.at;
}

pub members::specified_member-returns-in-Semicolon : goal.members::specified_member-returns-in-Semicolon
members::specified_member-returns-in-Semicolon t c = record {
  found =
      subst
      (λ x. FoundMember c.args.kinds.now c.args.at x (c.in-Ok.found.2 + 1))
      (sym (c.bare.ensures ∙ ap (λ x. Bare_of x c.in-Ok.found.2) c.new.ensures))
      (bare_found
      _
      _
      c.in-Ok.found.0.items
      (ap (λ xs. length xs == 0) (sym c.as_slice.ensures.value) ∙ sym c.if-is_empty.ensures)
      _
      c.in-Ok.ensures.found
      (sym c.in-Semicolon.ensures.kind)
      c.in-Semicolon.ensures.inside);
  fails = tt;
}

pub members::specified_member-returns-in-Err-fields : goal.members::specified_member-returns-in-Err-fields
members::specified_member-returns-in-Err-fields t c = record {
  found = tt;
  fails =
      list_missing
      _
      _
      c.requires.other
      _
      _
      c.in-Ok.ensures.only
      (λ k. c.in_default.not-Semicolon (c.kind_at.ensures.kind ∙ k))
      _
      (ap not c.in-Ok.ensures.told)
      _
      c.in-Err-fields.ensures.fails;
}

pub members::specified_member-returns-in-Ok-fields : goal.members::specified_member-returns-in-Ok-fields
members::specified_member-returns-in-Ok-fields t c =
    let f = field_of c.in-Ok-fields.first in
    let fs = fields (fields_of c.in-Ok-fields.more.items) No_fields in
    record {
      found =
          subst
          (λ x. FoundMember c.args.kinds.now c.args.at x (c.in-Ok-fields.end + 1))
          (sym (c.fields-in-Ok-fields.ensures ∙ ap (λ x. Fields_of x f fs c.in-Ok-fields.end) c.new-in-Ok-fields.ensures))
          (fields_found
          _
          _
          c.in-Ok.found.0.items
          (ap (λ xs. length xs == 0) (sym c.as_slice.ensures.value) ∙ sym c.if-is_empty.ensures)
          _
          c.in-Ok.ensures.found
          _
          (ap not c.in-Ok.ensures.told)
          _
          _
          _
          c.in-Ok-fields.ensures.found);
      fails = tt;
    }

pub members::member-returns-in-Ok : goal.members::member-returns-in-Ok
members::member-returns-in-Ok t c = record {
  found =
      subst
      (λ x. FoundMember c.args.kinds.now c.args.at x c.in-Ok.end)
      (sym c.asserted.ensures)
      (asserted_found _ _ _ _ c.in-Ok.ensures.found);
  fails = tt;
}

pub members::member-returns-in-Err : goal.members::member-returns-in-Err
members::member-returns-in-Err t c =
    record { found = tt; fails = asserted_fails _ _ (sym c.in-Assert.ensures.kind) _ c.in-Err.ensures.only }

pub members::members-members-init : goal.members::members-members-init
members::members-members-init t c = membering_start_with _ _ _ c.new-members.ensures.items c.requires.inside

pub members::members-returns-in-Err : goal.members::members-returns-in-Err
members::members-returns-in-Err t c = record { found = tt; fails = membering_fails _ _ _ _ c.members.invariant _ c.in-Err.ensures.fails }

pub members::members-returns-in-CloseBrace : goal.members::members-returns-in-CloseBrace
members::members-returns-in-CloseBrace t c = record {
  found =
      members_end
      _
      _
      _
      _
      _
      c.members.invariant
      _
      _
      c.in-Ok.ensures.found
      (sym c.in-CloseBrace.ensures.kind)
      c.in-CloseBrace.ensures.inside
      c.in-Ok-push.ensures.items;
  fails = tt;
}

pub members::members-members-preserved : goal.members::members-members-preserved
members::members-members-preserved t c =
    membering_push
    _
    _
    _
    _
    _
    c.members.invariant
    _
    _
    c.in-Ok.ensures.found
    (λ k. c.in_default-kind_at.not-CloseBrace (c.kind_at.ensures.kind ∙ k))
    c.in-Ok-push.ensures.items

pub type_names::aligned_as-typed-requires : goal.type_names::aligned_as-typed-requires
type_names::aligned_as-typed-requires t c =
    (omega (arith, c.decreases, c.requires.inside), (c.requires.size, (c.requires.inside, c.requires.opens)))

pub type_names::aligned_as-returns-in-Err : goal.type_names::aligned_as-returns-in-Err
type_names::aligned_as-returns-in-Err t c =
    record { found = tt; fails = aligned_as_fails _ _ _ c.requires.kind c.requires.named _ c.in-Err.ensures.only }

pub type_names::aligned_as-returns-in-Ok-aligned_as : goal.type_names::aligned_as-returns-in-Ok-aligned_as
type_names::aligned_as-returns-in-Ok-aligned_as t c =
    record { found = aligned_as_found _ _ _ _ _ _ c.requires.kind c.in-Ok-aligned_as.ensures c.in-Ok.ensures.found; fails = tt }

pub type_names::alignment-aligned_as-requires : goal.type_names::alignment-aligned_as-requires
type_names::alignment-aligned_as-requires t c = (
  omega (arith, c.decreases),
  (
    c.requires.size,
    (
      c.in-OpenParen.ensures.inside,
      (
        c.requires.kind,
        (sym c.in-OpenParen.ensures.kind, ap starts_type (sym c.kind_at-2.ensures.kind) ∙ sym c.starts_type.ensures ∙ c.if-starts_type.true),
      ),
    ),
  ),
)

pub type_names::alignment-returns-in_default : goal.type_names::alignment-returns-in_default
type_names::alignment-returns-in_default t c = record {
  found = tt;
  fails = align_unopened _ _ _ c.requires.kind (λ k. c.in_default.not-OpenParen (c.kind_at.ensures.kind ∙ k)) c.args.at;
}

pub type_names::alignment-returns-in-Err : goal.type_names::alignment-returns-in-Err
type_names::alignment-returns-in-Err t c = record {
  found = tt;
  fails =
      aligned_fails
      _
      _
      _
      c.requires.kind
      (ap starts_type (sym c.kind_at-2.ensures.kind) ∙ sym c.starts_type.ensures ∙ c.if-starts_type.false)
      _
      c.in-Err.ensures.only;
}

pub type_names::alignment-returns-in_default-kind_at : goal.type_names::alignment-returns-in_default-kind_at
type_names::alignment-returns-in_default-kind_at t c = record {
  found = tt;
  fails =
      aligned_left_open
      _
      _
      _
      c.requires.kind
      (ap starts_type (sym c.kind_at-2.ensures.kind) ∙ sym c.starts_type.ensures ∙ c.if-starts_type.false)
      _
      _
      c.in-Ok.ensures.only
      (λ k. c.in_default-kind_at.not-CloseParen (c.kind_at-3.ensures.kind ∙ k))
      c.args.at;
}

pub type_names::alignment-returns-in-Ok-aligned : goal.type_names::alignment-returns-in-Ok-aligned
type_names::alignment-returns-in-Ok-aligned t c = record {
  found =
      aligned_found
      _
      _
      _
      _
      _
      _
      c.requires.kind
      (sym c.in-OpenParen.ensures.kind)
      c.in-Ok-aligned.ensures
      c.in-Ok.ensures.found
      (sym c.in-CloseParen.ensures.kind)
      c.in-CloseParen.ensures.inside;
  fails = tt;
}

pub type_names::structure-tag_before-tag-requires-clause-braces : goal.type_names::structure-tag_before-tag-requires-clause-braces
type_names::structure-tag_before-tag-requires-clause-braces t c = c.requires.braces

pub type_names::structure-members-requires : goal.type_names::structure-members-requires
type_names::structure-members-requires t c =
    (omega (arith, c.decreases, c.tag_before-tag.ensures.forth, c.tag_before-tag.ensures.inside), (c.requires.size, omega (arith, c.tag_before-tag.ensures.inside)))

pub type_names::structure-returns-in-Ok : goal.type_names::structure-returns-in-Ok
type_names::structure-returns-in-Ok t c = record {
  found =
      structure_found
      _
      _
      _
      _
      _
      _
      _
      _
      c.requires.kind
      c.members-in-Ok.ensures
      c.tag_before-tag.ensures
      c.in-Ok.ensures.found;
  fails = tt;
}

pub type_names::structure-returns-in-Err : goal.type_names::structure-returns-in-Err
type_names::structure-returns-in-Err t c =
    record { found = tt; fails = structure_fails _ _ _ c.requires.kind c.requires.braces _ _ c.tag_before-tag.ensures _ c.in-Err.ensures.fails }

pub type_names::specifier-alignment-requires : goal.type_names::specifier-alignment-requires
type_names::specifier-alignment-requires t c =
    (omega (arith, c.decreases), (c.requires.size, (c.in-Align.ensures.inside, sym c.in-Align.ensures.kind)))

pub type_names::specifier-braced-requires : goal.type_names::specifier-braced-requires
type_names::specifier-braced-requires t c =
    let opens = sym c.list_opens.ensures ∙ c.if-list_opens.true in
    (omega (arith, c.decreases), (c.requires.size, (list_inside _ _ opens, opens)))

pub type_names::braced-enumeration-requires : goal.type_names::braced-enumeration-requires
type_names::braced-enumeration-requires t c = (
  omega (arith, c.decreases),
  (c.requires.size, (c.requires.inside, (sym c.in-Enum.ensures.kind, list_braces _ _ c.requires.opens))),
)

pub type_names::braced-structure-requires : goal.type_names::braced-structure-requires
type_names::braced-structure-requires t c = (
  omega (arith, c.decreases),
  (
    c.requires.size,
    (
      c.requires.inside,
      (
        tag_is _ (list_tags _ _ c.requires.opens) (λ k. c.in_default.not-Enum (c.kind_at.ensures.kind ∙ k)),
        list_braces _ _ c.requires.opens,
      ),
    ),
  ),
)

pub type_names::specifier-short_specifier-requires-clause-bare : goal.type_names::specifier-short_specifier-requires-clause-bare
type_names::specifier-short_specifier-requires-clause-bare t c = sym c.list_opens.ensures ∙ c.if-list_opens.false

pub type_names::specifier-short_specifier-requires-clause-unaligned : goal.type_names::specifier-short_specifier-requires-clause-unaligned
type_names::specifier-short_specifier-requires-clause-unaligned t c = λ k. c.in_default.not-Align (c.kind_at.ensures.kind ∙ k)

pub enumerators::enumerator-returns-then-not-is_word-clause-only : goal.enumerators::enumerator-returns-then-not-is_word-clause-only
enumerators::enumerator-returns-then-not-is_word-clause-only t c =
    enumerating.unnamed _ _ (ap is_word (sym c.kind_at.ensures.kind) ∙ sym c.is_word.ensures ∙ c.if-not-is_word.true) 0

pub enumerators::enumerator-returns-in_default : goal.enumerators::enumerator-returns-in_default
enumerators::enumerator-returns-in_default t c =
    let word = ap is_word (sym c.kind_at.ensures.kind) ∙ sym c.is_word.ensures ∙ c.if-not-is_word.false in
    let only = enumerating.counted_same _ c.args.at (λ k. c.in_default.not-Equals (c.kind_at-2.ensures.kind ∙ k)) in
    record {
      found =
          subst
          (λ x. FoundEnumerator c.args.kinds.now c.args.at x (c.args.at + 1))
          (sym c.counted.ensures)
          (enumerating.counted_found _ _ word);
      only = subst (λ x. enumerating.OnlyEnumerator c.args.kinds.now c.args.at x (c.args.at + 1)) (sym c.counted.ensures) only;
    }

pub enumerators::enumerator-returns-in-Ok : goal.enumerators::enumerator-returns-in-Ok
enumerators::enumerator-returns-in-Ok t c =
    let word = ap is_word (sym c.kind_at.ensures.kind) ∙ sym c.is_word.ensures ∙ c.if-not-is_word.false in
    let only = enumerating.given_same _ c.args.at (sym c.in-Equals.ensures.kind) _ _ c.in-Ok.ensures.only in
    record {
      found =
          subst
          (λ x. FoundEnumerator c.args.kinds.now c.args.at x c.in-Ok.end)
          (sym c.given.ensures)
          (enumerating.given_found _ _ word (sym c.in-Equals.ensures.kind) _ _ c.in-Ok.ensures.found);
      only = subst (λ x. enumerating.OnlyEnumerator c.args.kinds.now c.args.at x c.in-Ok.end) (sym c.given.ensures) only;
    }

pub enumerators::enumerator-returns-in-Err : goal.enumerators::enumerator-returns-in-Err
enumerators::enumerator-returns-in-Err t c =
    record { found = tt; only = enumerating.given_fails _ _ (sym c.in-Equals.ensures.kind) _ c.in-Err.ensures.only }

pub enumerators::more_enumerators-enumerators-init : goal.enumerators::more_enumerators-enumerators-init
enumerators::more_enumerators-enumerators-init t c = enumerating.enumerating_start_with _ _ _ c.new-more.ensures.items c.requires.inside

pub enumerators::more_enumerators-returns-in_default : goal.enumerators::more_enumerators-returns-in_default
enumerators::more_enumerators-returns-in_default t c = record {
  found = enumerating.enumerating_end _ _ _ _ c.enumerators.invariant;
  only = enumerating.enumerating_only _ _ _ _ c.enumerators.invariant (λ k. c.in_default.not-Comma (c.kind_at.ensures.kind ∙ k));
}

pub enumerators::more_enumerators-returns-in-CloseBrace : goal.enumerators::more_enumerators-returns-in-CloseBrace
enumerators::more_enumerators-returns-in-CloseBrace t c = record {
  found = enumerating.enumerating_last _ _ _ _ c.enumerators.invariant (sym c.in-Comma.ensures.kind) c.in-Comma.ensures.inside;
  only =
      enumerating.enumerating_only_last _ _ _ _ c.enumerators.invariant (sym c.in-Comma.ensures.kind) (sym c.in-CloseBrace.ensures.kind);
}

pub enumerators::more_enumerators-returns-in-Err : goal.enumerators::more_enumerators-returns-in-Err
enumerators::more_enumerators-returns-in-Err t c = record {
  found = tt;
  only =
      enumerating.enumerating_fails
      _
      _
      _
      _
      c.enumerators.invariant
      (sym c.in-Comma.ensures.kind)
      (λ k. c.in_default-kind_at.not-CloseBrace (c.kind_at-in-enumerators.ensures.kind ∙ k))
      _
      c.in-Err.ensures.only;
}

pub enumerators::more_enumerators-enumerators-preserved : goal.enumerators::more_enumerators-enumerators-preserved
enumerators::more_enumerators-enumerators-preserved t c =
    enumerating.enumerating_push
    _
    _
    _
    _
    _
    c.enumerators.invariant
    (sym c.in-Comma.ensures.kind)
    (λ k. c.in_default-kind_at.not-CloseBrace (c.kind_at-in-enumerators.ensures.kind ∙ k))
    _
    _
    c.in-Ok.ensures.found
    c.in-Ok.ensures.only
    c.in-Ok-push.ensures.items

pub enumerators::enumeration-tag_before-tag-requires-clause-braces : goal.enumerators::enumeration-tag_before-tag-requires-clause-braces
enumerators::enumeration-tag_before-tag-requires-clause-braces t c = c.requires.braces

pub enumerators::enumeration-enumerator-requires : goal.enumerators::enumeration-enumerator-requires
enumerators::enumeration-enumerator-requires t c =
    (omega (arith, c.decreases, c.tag_before-tag.ensures.forth, c.tag_before-tag.ensures.inside), (c.requires.size, omega (arith, c.tag_before-tag.ensures.inside)))

pub enumerators::enumeration-returns-in-Err : goal.enumerators::enumeration-returns-in-Err
enumerators::enumeration-returns-in-Err t c = record {
  found = tt;
  fails =
      enumeration_fails
      _
      _
      _
      c.requires.kind
      c.requires.braces
      _
      _
      c.tag_before-tag.ensures
      _
      (enumerating.first_fails _ _ _ c.in-Err.ensures.only);
}

pub enumerators::enumeration-returns-in-Err-more_enumerators : goal.enumerators::enumeration-returns-in-Err-more_enumerators
enumerators::enumeration-returns-in-Err-more_enumerators t c = record {
  found = tt;
  fails =
      enumeration_fails
      _
      _
      _
      c.requires.kind
      c.requires.braces
      _
      _
      c.tag_before-tag.ensures
      _
      (enumerating.rest_fails _ _ _ _ c.in-Ok.ensures.only _ c.in-Err-more_enumerators.ensures.only);
}

pub enumerators::enumeration-returns-in_default : goal.enumerators::enumeration-returns-in_default
enumerators::enumeration-returns-in_default t c = record {
  found = tt;
  fails =
      enumerating.unclosed
      _
      _
      _
      c.requires.kind
      c.requires.braces
      _
      _
      c.tag_before-tag.ensures
      _
      _
      c.in-Ok.ensures.only
      _
      _
      _
      c.in-Ok-more_enumerators.ensures.only
      (λ k. c.in_default.not-CloseBrace (c.kind_at.ensures.kind ∙ k))
      c.args.at;
}

pub enumerators::enumeration-returns-in-Ok-enumerators : goal.enumerators::enumeration-returns-in-Ok-enumerators
enumerators::enumeration-returns-in-Ok-enumerators t c = record {
  found =
      enumeration_found
      _
      _
      _
      _
      _
      _
      _
      _
      _
      _
      _
      c.requires.kind
      c.in-Ok-enumerators.ensures
      c.tag_before-tag.ensures
      c.in-Ok.ensures.found
      c.in-Ok-more_enumerators.ensures.found
      (sym c.in-CloseBrace.ensures.kind)
      c.in-CloseBrace.ensures.inside;
  fails = tt;
}
