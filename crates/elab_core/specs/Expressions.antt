-- The judgement of a whole expression (ISO C11 6.5, 6.6): by recursion over its tree, one row at each construct. Parts are judged in
-- the order of their tokens, and a construct behind its parts.
use Rattle.std.specs.Prelude.{ℕ, Bool, true, false, List, [], ◌∷◌, ◌++◌, length, Option, Some, None, if◌then◌else◌}
use Rattle.asking.specs.Asking.{Asking, Gives, and_then}
use Rattle.tree_data.specs.Trees.{Tree, Name_of, Constant_of, Text_of, Paren_of, Postfix_of, Unary_of, Binary_of, Conditional_of, Assign_of, Of_type, Compound_of, Generic_of, Offset_of, Behind, Operand_of, Index_of, Call_of, Call_with_of, Member_of, Step_of, Behinds, None_behind, Behind_then, Front, Operator_of, Cast_of, Choice_of, Left_of, Fronts, None_before, Front_then, Braces, Braces_of, Initial, Value_of, List_of, Piece, Plain_of, Designated_of, Pieces, No_pieces, Piece_then, Designator, Element_of, Field_of, Designators, No_designators, Designator_then, Association, Typed_of, Default_of, Associations, No_associations, Association_then, Specifying, Word_of, Typedef_of, Tag_of, Atomic_of, Aligned_as_of, Aligned_of, Members_of, Enumerators_of, Member, Bare_of, Fields_of, Asserted_of, Members, No_members, Member_then, Field, Declared_of, Bits_of, Padding_of, Fields, No_fields, Field_then, Enumerator, Counted_of, Given_of, Enumerators, No_enumerators, Enumerator_then, Assertion, Assertion_of, Specifyings, No_specifiers, Specifier_then, Naming, Type_of, Declaring, Declaring_of, Grouping, No_group, Named_of, Group_of, Deriving, Array_of, Function_of, Derivings, No_derivings, Deriving_then, Parameters, No_parameters, Fixed_of, Variadic_of, Names_of, Row, No_more, Parameter_then, Bound, Unsized_of, Any_size_of, Sized_of, Static_sized_of, Sized_static_of}
use Rattle.type_data.specs.declared.judged.Judged.{Judged}
use Rattle.type_data.specs.declared.qualifiers.Extent.TheVariants as extent
use Rattle.type_data.specs.declared.qualifiers.Proto.{Proto}
use Rattle.type_data.specs.declared.qualifiers.Proto.TheVariants as proto
use Rattle.type_data.specs.Types as types
use Rattle.init_rules.specs.declared.state.InitPiece.TheVariants as piece
use Rattle.head_rules.specs.Enumerators.{Listed, none_listed}
use Rattle.head_rules.specs.Fields as members_of
use Rattle.head_rules.specs.Fields.{none_gathered}
use Rattle.expr_rules.specs.declared.parts.Association.TheVariants as association
use Rattle.expr_rules.specs.declared.parts.Form.TheVariants as form
use Rattle.elab_state.specs.declared.around.Where.{Where}
use Rattle.elab_core.specs.declared.shapes.Filling.{Filling}
use Rattle.elab_core.specs.declared.shapes.Gathered.{Gathered}
use Rattle.elab_core.specs.declared.shapes.Step.{Step}
use Rattle.elab_core.specs.declared.shapes.Step.TheVariants as step
use Rattle.elab_core.specs.declared.shapes.Typed.{Typed}
use Rattle.elab_core.specs.Braced.{designated, expressed, filled}
use Rattle.elab_core.specs.Accesses.{access, designated_field}
use Rattle.elab_core.specs.Casts.{cast, offset, size}
use Rattle.elab_core.specs.Assertions.{asserted}
use Rattle.elab_core.specs.Constants.{constant, text}
use Rattle.elab_core.specs.Enumerating.{counted, given}
use Rattle.elab_core.specs.Fielding.{bare, bits, declared}
use Rattle.elab_core.specs.Listed.{behind_enumerators, behind_members, with_mention, with_size, with_size_of}
use Rattle.elab_core.specs.Prototypes.{in_list, nearest, out_of}
use Rattle.elab_core.specs.TagBodies.{begun_body}
use Rattle.elab_state.specs.declared.made.Made.{Made}
use Rattle.elab_state.specs.Doings.{Doing, follow, gives, left_out}
use Rattle.elab_core.specs.declared.generics.Choices.{Choices}
use Rattle.elab_core.specs.declared.offsets.Way.{Way}
use Rattle.elab_core.specs.Literals.{begun, literal}
use Rattle.elab_core.specs.Offsets.{astray, by_index, by_name, way_from}
use Rattle.elab_core.specs.Generics.{controlled, selection, typed_association, with_choice}
use Rattle.elab_core.specs.Ends.{first_of, is_alone, is_text, name_of, place_behind, place_of, specifiers_begin}
use Rattle.elab_core.specs.Names.{identifier}
use Rattle.elab_core.specs.Operators.{assign_form, binary_form, is_size, prefix_form, is_alignment, step_form}
use Rattle.elab_core.specs.Entering.{entered}
use Rattle.elab_core.specs.Parameters.{bracket_quals, function_step, in_front, in_prototype}
use Rattle.elab_state.specs.Contexts.{Context}
use Rattle.elab_core.specs.Rows.{row}
use Rattle.elab_core.specs.Specifiers.{faulty, nothing, settled, with_other, with_word}
use Rattle.elab_core.specs.Tags.{tag, typedef_name}
use Rattle.elab_state.specs.Wants.{wants}
use Rattle.elab_core.specs.Steps.{array_step, derived, is_some_of, moved, pointer_step, qualifiers, sized, variable}
use Rattle.elab_state.specs.Tokens.{spelling}
use Rattle.elab_state.specs.Words.{word_of}
use Rattle.std.specs.Prelude.{codes}

-- an operand that isn't evaluated (6.5.3.4p2): names in it count as no use (6.9p3)
abbrev pub unevaluated : Where
unevaluated = record { counted = false; defining = false }

abbrev pub behind_prefix : Context → ℕ → Where → Where
behind_prefix c n w = if is_size (spelling c.tokens n) then unevaluated else w

abbrev pub gathered : Gathered × Made → Doing Gathered
gathered r = Gives r

-- the last one stands first
abbrev pub pointer_steps : Context → List (ℕ × List ℕ) → List Step → Made → List Step × Made
pointer_steps c [] ss m = (ss, m)
pointer_steps c (p ∷ ps) ss m = pointer_steps c ps (pointer_step (qualifiers c p.1 m).0 ∷ ss) (qualifiers c p.1 m).1

-- brackets with a size, whose first token is `at`; `marked` says that qualifiers or `static` stand in them
abbrev pub sized_array : Context → ℕ → List ℕ → Bool → ℕ → (Made → Doing Judged) → Made → Doing Step
sized_array c o ns marked at size m = follow (Gives (qualifiers c ns m)) (λ g now. follow (size now) (λ j next.
    follow (Gives (sized o at j next)) (λ n. gives (array_step o g marked n))))

-- the first parameter, and the others
abbrev pub entries : Proto → (Made → Doing (Option Typed)) → (Made → Doing (Option types.Parameters)) → Made → Doing Step
entries kind first rest m = follow (first m) (λ t now. follow (rest now) (λ list. gives (function_step kind (in_front t list))))

-- specifiers that begin at the token `at`, and the type that they specify
abbrev pub based_on : ℕ → (Made → Doing Gathered) → Made → Doing (Gathered × Typed)
based_on at specify m = follow (specify m) (λ g now. follow (Gives (settled at g now)) (λ ty. gives (g, ty)))

-- the type of a declarator that is no parameter's, whose faults fall on the token `at`
abbrev pub derived_on : Context → ℕ → Typed → (Made → Doing (List Step)) → Made → Doing Typed
derived_on c at ty derive m = follow (derive m) (λ steps. derived c at false steps ty)

abbrev mutual
  pub judge : Context → Where → Tree → Made → Doing Judged
  judge c w (Name_of n) m = identifier c w.counted n m
  judge c w (Constant_of n) m = constant c n m
  judge c w (Text_of ns) m = text c ns m
  judge c w (Paren_of o t e) m = follow (judge c w t m) (λ j. row c o form.Paren (j ∷ []))
  judge c w (Postfix_of f bs) m = follow (judge c w f m) (λ j. go_on c w bs j)
  judge c w (Unary_of fs t) m = go_back c w fs (λ v. judge c v t) m
  judge c w (Binary_of f bs) m = follow (judge c w f m) (λ j. go_on c w bs j)
  judge c w (Conditional_of fs t) m = go_back c w fs (λ v. judge c v t) m
  judge c w (Assign_of fs t) m = go_back c w fs (λ v. judge c v t) m
  judge c w (Of_type k o t e) m = follow (type_name c unevaluated t m) (λ ty. size c k (is_alignment (spelling c.tokens k)) ty)
  judge c w (Compound_of o t e i) m = follow (type_name c w t m) (λ ty now. follow (begun c ty now) (λ f next.
      follow (braces c w i f next) (λ g. literal c o ty g)))
  judge c w (Generic_of k o t gs e) m = follow (judge c w t m) (λ j now. follow (associations c w gs (controlled j) now) (λ cs. selection c k cs))
  judge c w (Offset_of k o t x n bs e) m = follow (type_name c w t m) (λ ty now. follow (way_from c ty n now) (λ s next.
      follow (steps_to c w bs s next) (λ r. offset c k ty r.steps)))

  -- what stands behind an operand: operators with operands, and postfix operators
  pub go_on : Context → Where → Behinds → Judged → Made → Doing Judged
  go_on c w None_behind j m = gives j m
  go_on c w (Behind_then b bs) j m = follow (behind c w b j m) (λ k. go_on c w bs k)

  pub behind : Context → Where → Behind → Judged → Made → Doing Judged
  behind c w (Operand_of o t) j m = follow (judge c w t m) (λ k. row c o (binary_form (spelling c.tokens o)) (j ∷ k ∷ []))
  behind c w (Index_of o t e) j m = follow (judge c w t m) (λ k. row c o form.Index (j ∷ k ∷ []))
  behind c w (Call_of o e) j m = row c o form.Call (j ∷ []) m
  behind c w (Call_with_of o t bs e) j m = follow (follow (judge c w t m) (λ k. gives ((j ∷ []) ++ k ∷ []))) (λ ks now.
      follow (arguments c w bs ks now) (λ parts. row c o form.Call parts))
  behind c w (Member_of o n) j m = access c o n j m
  behind c w (Step_of o) j m = row c o (step_form (spelling c.tokens o)) (j ∷ []) m

  -- the other arguments of a call, behind these parts
  pub arguments : Context → Where → Behinds → List Judged → Made → Doing (List Judged)
  arguments c w None_behind ks m = gives ks m
  arguments c w (Behind_then b bs) ks m = follow (argument c w b ks m) (λ more. arguments c w bs more)

  pub argument : Context → Where → Behind → List Judged → Made → Doing (List Judged)
  argument c w (Operand_of o t) ks m = follow (judge c w t m) (λ k. gives (ks ++ k ∷ []))
  argument c w (Index_of o t e) ks m = gives ks m
  argument c w (Call_of o e) ks m = gives ks m
  argument c w (Call_with_of o t bs e) ks m = gives ks m
  argument c w (Member_of o n) ks m = gives ks m
  argument c w (Step_of o) ks m = gives ks m

  -- what stands in front of the last operand, which is applied last
  pub go_back : Context → Where → Fronts → (Where → Made → Doing Judged) → Made → Doing Judged
  go_back c w None_before last m = last w m
  go_back c w (Front_then f fs) last m = front c w f (λ v. go_back c v fs last) m

  pub front : Context → Where → Front → (Where → Made → Doing Judged) → Made → Doing Judged
  front c w (Operator_of o) rest m = follow (rest (behind_prefix c o w) m) (λ j. row c o (prefix_form (spelling c.tokens o)) (j ∷ []))
  front c w (Cast_of o t e) rest m = follow (type_name c w t m) (λ ty now. follow (rest w now) (λ j. cast c o ty j))
  front c w (Choice_of t q x e) rest m = follow (judge c w t m) (λ b now. follow (judge c w x now) (λ j next. follow (rest w next) (λ k.
      row c q form.Conditional (b ∷ j ∷ k ∷ []))))
  front c w (Left_of t o) rest m = follow (judge c w t m) (λ j now. follow (rest w now) (λ k.
      row c o (assign_form (spelling c.tokens o)) (j ∷ k ∷ [])))

  -- ---- generic selections

  pub associations : Context → Where → Associations → Choices → Made → Doing Choices
  associations c w No_associations cs m = gives cs m
  associations c w (Association_then o x xs) cs m = follow (association_of c w x cs m) (λ more. associations c w xs more)

  pub association_of : Context → Where → Association → Choices → Made → Doing Choices
  association_of c w (Typed_of t o e) cs m = follow (type_name c w t m) (λ ty now. follow (judge c w e now) (λ j. gives (with_choice (typed_association ty) j cs)))
  association_of c w (Default_of d o e) cs m = follow (judge c w e m) (λ j. gives (with_choice association.Default j cs))

  -- ---- the place of a member

  pub steps_to : Context → Where → Behinds → Way → Made → Doing Way
  steps_to c w None_behind s m = gives s m
  steps_to c w (Behind_then b bs) s m = follow (step_to c w b s m) (λ r. steps_to c w bs r)

  pub step_to : Context → Where → Behind → Way → Made → Doing Way
  step_to c w (Index_of o t e) s m = follow (judge c w t m) (λ j now. Gives (by_index (first_of t) j s now))
  step_to c w (Member_of o n) s m = Gives (by_name c n s m)
  step_to c w (Operand_of o t) s m = gives (astray s) m
  step_to c w (Call_of o e) s m = gives (astray s) m
  step_to c w (Call_with_of o t bs e) s m = gives (astray s) m
  step_to c w (Step_of o) s m = gives (astray s) m

  -- ---- initializers in braces (6.7.9)

  pub braces : Context → Where → Braces → Filling → Made → Doing Filling
  braces c w (Braces_of o p ps t e) f m = follow (Gives (filled o piece.Open f m)) (λ g now. follow (piece_in c w p g now) (λ h next.
      follow (pieces_in c w ps h next) (λ i last. Gives (filled e piece.Close i last))))

  pub pieces_in : Context → Where → Pieces → Filling → Made → Doing Filling
  pieces_in c w No_pieces f m = gives f m
  pieces_in c w (Piece_then o p ps) f m = follow (piece_in c w p f m) (λ g. pieces_in c w ps g)

  pub piece_in : Context → Where → Piece → Filling → Made → Doing Filling
  piece_in c w (Plain_of i) f m = initial c w i f m
  piece_in c w (Designated_of d ds o i) f m = follow (designator_in c w d f m) (λ g now. follow (designators_in c w ds g now) (λ h. initial c w i h))

  pub initial : Context → Where → Initial → Filling → Made → Doing Filling
  initial c w (Value_of t) f m = follow (judge c w t m) (λ j now. Gives (expressed (first_of t) (is_text t) j f now))
  initial c w (List_of i) f m = braces c w i f m

  pub designators_in : Context → Where → Designators → Filling → Made → Doing Filling
  designators_in c w No_designators f m = gives f m
  designators_in c w (Designator_then d ds) f m = follow (designator_in c w d f m) (λ g. designators_in c w ds g)

  pub designator_in : Context → Where → Designator → Filling → Made → Doing Filling
  designator_in c w (Element_of o t e) f m = follow (judge c w t m) (λ j now. Gives (designated o (first_of t) j f now))
  designator_in c w (Field_of o n) f m = Gives (designated_field c o n f m)

  -- ---- names of types (6.7.7)

  pub type_name : Context → Where → Naming → Made → Doing Typed
  type_name c w (Type_of ss d) m = follow (specifiers c w ss nothing m) (λ g now. follow (Gives (settled (specifiers_begin ss) g now)) (λ ty next.
      follow (declarator c w d next) (λ steps. derived c (place_of ss d) false steps ty)))

  pub specifiers : Context → Where → Specifyings → Gathered → Made → Doing Gathered
  specifiers c w No_specifiers g m = gives g m
  specifiers c w (Specifier_then s ss) g m = follow (specifier c w s g m) (λ h. specifiers c w ss h)

  pub specifier : Context → Where → Specifying → Gathered → Made → Doing Gathered
  specifier c w (Word_of n) g m = Gives (with_word (word_of (spelling c.tokens n)) n g m)
  specifier c w (Typedef_of n) g m = follow (typedef_name c w.counted n m) (λ t. gives (with_other t g))
  specifier c w (Tag_of k n) g m = follow (tag c k n m) (λ t. gives (with_mention c k t g))
  specifier c w (Atomic_of k o t e) g m = follow (type_name c w t (left_out (codes "_Atomic") k m)) (λ t. gives (faulty g))
  specifier c w (Aligned_of k o t e) g m = follow (judge c w t m) (λ j now. Gives (with_size k (first_of t) j g now))
  specifier c w (Aligned_as_of k o t e) g m = follow (type_name c w t m) (λ ty now. with_size_of c k ty g now)
  specifier c w (Members_of k n o ms e) g m = follow (begun_body c k n m) (λ b now.
      follow (members c w ms (none_gathered b.kind) now) (λ s next. Gives (behind_members c b s g next)))
  specifier c w (Enumerators_of k n o x xs t e) g m = follow (begun_body c k n m) (λ b now.
      follow (enumerator c w x none_listed now) (λ s next. follow (enumerators c w xs s next) (λ r last. Gives (behind_enumerators b r g last))))

  -- ---- members (6.7.2.1)

  pub members : Context → Where → Members → members_of.Gathered → Made → Doing members_of.Gathered
  members c w No_members s m = gives s m
  members c w (Member_then x xs) s m = follow (member c w x s m) (λ r. members c w xs r)

  pub member : Context → Where → Member → members_of.Gathered → Made → Doing members_of.Gathered
  member c w (Bare_of ss e) s m = follow (based_on (specifiers_begin ss) (specifiers c w ss nothing) m) (λ b now. bare c b.0 (specifiers_begin ss) b.1 s now)
  member c w (Fields_of ss f fs e) s m = follow (based_on (specifiers_begin ss) (specifiers c w ss nothing) m) (λ b now.
      follow (field c w (specifiers_begin ss) b.0 b.1 f s now) (λ r next. fields c w (specifiers_begin ss) b.0 b.1 fs r next))
  member c w (Asserted_of a) s m = and_then (assertion c w a m) (λ now. gives s now)

  -- the other declarators of a member declaration, with its first token, its specifiers and the type of these
  pub fields : Context → Where → ℕ → Gathered → Typed → Fields → members_of.Gathered → Made → Doing members_of.Gathered
  fields c w at g ty No_fields s m = gives s m
  fields c w at g ty (Field_then o f fs) s m = follow (field c w at g ty f s m) (λ r. fields c w at g ty fs r)

  pub field : Context → Where → ℕ → Gathered → Typed → Field → members_of.Gathered → Made → Doing members_of.Gathered
  field c w at g ty (Declared_of d) s m = follow (derived_on c (place_behind at d) ty (declarator c w d) m) (λ t. declared c g (place_behind at d) (name_of d) t s)
  field c w at g ty (Bits_of d o t) s m = follow (derived_on c (place_behind at d) ty (declarator c w d) m) (λ u now.
      follow (judge c w t now) (λ j. bits c g (place_behind at d) (name_of d) u (first_of t) j s))
  field c w at g ty (Padding_of o t) s m = follow (judge c w t m) (λ j. bits c g o None ty (first_of t) j s)

  -- ---- enumerators (6.7.2.2)

  pub enumerators : Context → Where → Enumerators → Listed → Made → Doing Listed
  enumerators c w No_enumerators s m = gives s m
  enumerators c w (Enumerator_then o x xs) s m = follow (enumerator c w x s m) (λ r. enumerators c w xs r)

  pub enumerator : Context → Where → Enumerator → Listed → Made → Doing Listed
  enumerator c w (Counted_of n) s m = Gives (counted c n s m)
  enumerator c w (Given_of n o t) s m = follow (judge c w t m) (λ j now. Gives (given c n (first_of t) j s now))

  -- ---- static assertions (6.7.10)

  pub assertion : Context → Where → Assertion → Made → Asking wants Made
  assertion c w (Assertion_of k o t x ns e z) m = and_then (judge c w t m) (λ r. Gives (asserted c k ns (first_of t) r.0 r.1))

  -- what a declarator derives, in the order in which it is applied
  pub declarator : Context → Where → Declaring → Made → Doing (List Step)
  declarator c w (Declaring_of ps g ds) m = follow (Gives (pointer_steps c ps [] m)) (λ stars now. follow (grouping c w g now) (λ outer next.
      follow (derivings c w ds outer next) (λ ss. gives (moved stars ss))))

  pub grouping : Context → Where → Grouping → Made → Doing (List Step)
  grouping c w No_group m = gives [] m
  grouping c w (Named_of n) m = gives [] m
  grouping c w (Group_of o d e) m = declarator c w d m

  -- in front of the steps that stand further out
  pub derivings : Context → Where → Derivings → List Step → Made → Doing (List Step)
  derivings c w No_derivings ss m = gives ss m
  derivings c w (Deriving_then d ds) ss m = follow (follow (derivation c (nearest w ss) d m) (λ s. gives (s ∷ ss))) (λ more. derivings c w ds more)

  pub derivation : Context → Where → Deriving → Made → Doing Step
  derivation c w (Array_of o b e) m = bound c (in_list w) o b m
  derivation c w (Function_of o ps e) m =
      follow (parameters c w ps (in_prototype m)) (λ s now. gives s (out_of w (length m.entities) now))

  pub bound : Context → Where → ℕ → Bound → Made → Doing Step
  bound c w o (Unsized_of ns) m = follow (Gives (qualifiers c ns m)) (λ g. gives (array_step o g (is_some_of ns) (Some extent.None)))
  bound c w o (Any_size_of ns n) m = gives step.Bad (left_out variable o m)
  bound c w o (Sized_of ns t) m = sized_array c o ns (is_some_of ns) (first_of t) (judge c w t) m
  bound c w o (Static_sized_of k ns t) m = sized_array c o ns true (first_of t) (judge c w t) m
  bound c w o (Sized_static_of ns k t) m = sized_array c o ns true (first_of t) (judge c w t) m

  -- ---- parameters (6.7.6.3)

  pub parameters : Context → Where → Parameters → Made → Doing Step
  parameters c w No_parameters m = gives (step.Function types.No_more proto.Old) m
  parameters c w (Fixed_of p ps) m = entries proto.Fixed (entry c w p (is_alone ps)) (others c w ps) m
  parameters c w (Variadic_of p ps x d) m = entries proto.Variadic (entry c w p false) (others c w ps) m
  parameters c w (Names_of n ns) m = gives step.Bad (left_out (codes "identifier list") n m)

  pub others : Context → Where → Row → Made → Doing (Option types.Parameters)
  others c w No_more m = gives (Some types.No_more) m
  others c w (Parameter_then o p ps) m = follow (entry c w p false m) (λ t now. follow (others c w ps now) (λ list. gives (in_front t list)))

  -- none where it stands for no parameters
  pub entry : Context → Where → Naming → Bool → Made → Doing (Option Typed)
  entry c w (Type_of ss d) alone m = follow (specifiers c (in_list w) ss nothing m) (λ g now.
      follow (Gives (settled (specifiers_begin ss) g now)) (λ ty next.
      follow (declarator c (in_list w) d next) (λ steps more.
      follow (derived c (place_of ss d) true steps ty more) (λ t last. entered c w.defining g alone (place_of ss d) (name_of d) (bracket_quals steps) t last))))

abbrev pub based : Context → Where → Specifyings → Made → Doing (Gathered × Typed)
based c w ss m = based_on (specifiers_begin ss) (specifiers c w ss nothing) m

-- behind specifiers that begin at the token `at`
abbrev pub derived_by : Context → Where → ℕ → Typed → Declaring → Made → Doing Typed
derived_by c w at ty d m = derived_on c (place_behind at d) ty (declarator c w d) m
