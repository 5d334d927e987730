-- Parts end no earlier than they begin.
use Rattle.std.proofs.Common.{ℕ, ◌≤◌, List, Bool, Option}
use Rattle.tree_data.specs.Trees.{Tree, Behind, Front, Fronts, Piece, Designator, Designators, Association, Specifyings, Naming, Declaring, Grouping, Deriving, Bound, Member, Members, Field, Fields, Enumerator, Enumerators}
use Rattle.c_parser.specs.declared.kinds.Kind.{Kind}
use Rattle.c_parser.specs.Grammar.{spell, spell_behind, spell_front, spell_fronts, spell_piece, spell_designator, spell_designators, spell_association, spell_specifyings, spell_type, spell_declaring, spell_grouping, spell_deriving, spell_bound, spell_tag, spell_member, spell_members, spell_field, spell_fields, spell_enumerator, spell_enumerators, spell_comma}
use Rattle.c_parser.specs.Reading.{Holds, HoldsBehind, HoldsFront, HoldFronts, HoldsPiece, HoldsDesignator, HoldDesignators, HoldsAssociation, HoldSpecifyings, HoldsNaming, HoldsType, HoldsDeclaring, HoldsGrouping, HoldsDeriving, HoldsBound, HoldsTag, HoldsMember, HoldMembers, HoldsField, HoldFields, HoldsDeclarator, HoldsDirect, HoldsEnumerator, HoldEnumerators, HoldsComma}
use Rattle.c_parser.proofs.Numbers.{spans_forth}
use Rattle.c_parser.proofs.Spanned.{spanned, spanned_behind, spanned_front, spanned_fronts, spanned_piece, spanned_designator, spanned_designators, spanned_association, spanned_specifyings, spanned_naming, spanned_declaring, spanned_grouping, spanned_deriving, spanned_bound, tag_spanned, spanned_member, spanned_members, spanned_field, spanned_fields, spanned_declarator, spanned_direct, spanned_enumerator, spanned_enumerators, comma_spanned}
use Rattle.c_parser.proofs.Spans.{spanned_type}
use Rattle.c_parser.specs.declared.kinds.Named.{Named}

pub tree_forth : (ks : List Kind) → (t : Tree) → (a b : ℕ) → Holds ks t a b → a ≤ b
tree_forth ks t a b h = spans_forth (spell t) a b (spanned ks t a b h)

pub behind_forth : (ks : List Kind) → (l : ℕ) → (x : Behind) → (a b : ℕ) → HoldsBehind ks l x a b → a ≤ b
behind_forth ks l x a b h = spans_forth (spell_behind x) a b (spanned_behind ks l x a b h)

pub front_forth : (ks : List Kind) → (l : ℕ) → (x : Front) → (a b : ℕ) → HoldsFront ks l x a b → a ≤ b
front_forth ks l x a b h = spans_forth (spell_front x) a b (spanned_front ks l x a b h)

pub fronts_forth : (ks : List Kind) → (l : ℕ) → (xs : Fronts) → (a b : ℕ) → HoldFronts ks l xs a b → a ≤ b
fronts_forth ks l xs a b h = spans_forth (spell_fronts xs) a b (spanned_fronts ks l xs a b h)

pub piece_forth : (ks : List Kind) → (x : Piece) → (a b : ℕ) → HoldsPiece ks x a b → a ≤ b
piece_forth ks x a b h = spans_forth (spell_piece x) a b (spanned_piece ks x a b h)

pub designator_forth : (ks : List Kind) → (x : Designator) → (a b : ℕ) → HoldsDesignator ks x a b → a ≤ b
designator_forth ks x a b h = spans_forth (spell_designator x) a b (spanned_designator ks x a b h)

pub designators_forth : (ks : List Kind) → (xs : Designators) → (a b : ℕ) → HoldDesignators ks xs a b → a ≤ b
designators_forth ks xs a b h = spans_forth (spell_designators xs) a b (spanned_designators ks xs a b h)

pub association_forth : (ks : List Kind) → (x : Association) → (a b : ℕ) → HoldsAssociation ks x a b → a ≤ b
association_forth ks x a b h = spans_forth (spell_association x) a b (spanned_association ks x a b h)

pub specifyings_forth : (ks : List Kind) → (y : Bool) → (ss : Specifyings) → (a b : ℕ) → HoldSpecifyings ks y ss a b → a ≤ b
specifyings_forth ks y ss a b h = spans_forth (spell_specifyings ss) a b (spanned_specifyings ks y ss a b h)

pub type_forth : (ks : List Kind) → (t : Naming) → (a b : ℕ) → HoldsType ks t a b → a ≤ b
type_forth ks t a b h = spans_forth (spell_type t) a b (spanned_type ks t a b h)

pub naming_forth : (ks : List Kind) → (y : Bool) → (t : Naming) → (a b : ℕ) → HoldsNaming ks y t a b → a ≤ b
naming_forth ks y t a b h = spans_forth (spell_type t) a b (spanned_naming ks y t a b h)

pub declaring_forth : (ks : List Kind) → (y : Named) → (d : Declaring) → (a b : ℕ) → HoldsDeclaring ks y d a b → a ≤ b
declaring_forth ks y d a b h = spans_forth (spell_declaring d) a b (spanned_declaring ks y d a b h)

pub grouping_forth : (ks : List Kind) → (y : Named) → (g : Grouping) → (a b : ℕ) → HoldsGrouping ks y g a b → a ≤ b
grouping_forth ks y g a b h = spans_forth (spell_grouping g) a b (spanned_grouping ks y g a b h)

pub deriving_forth : (ks : List Kind) → (d : Deriving) → (a b : ℕ) → HoldsDeriving ks d a b → a ≤ b
deriving_forth ks d a b h = spans_forth (spell_deriving d) a b (spanned_deriving ks d a b h)

pub bound_forth : (ks : List Kind) → (x : Bound) → (a b : ℕ) → HoldsBound ks x a b → a ≤ b
bound_forth ks x a b h = spans_forth (spell_bound x) a b (spanned_bound ks x a b h)

pub members_forth : (ks : List Kind) → (ms : Members) → (a b : ℕ) → HoldMembers ks ms a b → a ≤ b
members_forth ks ms a b h = spans_forth (spell_members ms) a b (spanned_members ks ms a b h)

pub member_forth : (ks : List Kind) → (x : Member) → (a b : ℕ) → HoldsMember ks x a b → a ≤ b
member_forth ks x a b h = spans_forth (spell_member x) a b (spanned_member ks x a b h)

pub field_forth : (ks : List Kind) → (y : Bool) → (f : Field) → (a b : ℕ) → HoldsField ks y f a b → a ≤ b
field_forth ks y f a b h = spans_forth (spell_field f) a b (spanned_field ks y f a b h)

pub fields_forth : (ks : List Kind) → (fs : Fields) → (a b : ℕ) → HoldFields ks fs a b → a ≤ b
fields_forth ks fs a b h = spans_forth (spell_fields fs) a b (spanned_fields ks fs a b h)

pub declarator_forth : (ks : List Kind) → (y : Bool) → (d : Declaring) → (a b : ℕ) → HoldsDeclarator ks y d a b → a ≤ b
declarator_forth ks y d a b h = spans_forth (spell_declaring d) a b (spanned_declarator ks y d a b h)

pub direct_forth : (ks : List Kind) → (y : Bool) → (g : Grouping) → (a b : ℕ) → HoldsDirect ks y g a b → a ≤ b
direct_forth ks y g a b h = spans_forth (spell_grouping g) a b (spanned_direct ks y g a b h)

pub tag_forth : (ks : List Kind) → (g : Option ℕ) → (a b : ℕ) → HoldsTag ks g a b → a ≤ b
tag_forth ks g a b h = spans_forth (spell_tag g) a b (tag_spanned ks g a b h)

pub enumerator_forth : (ks : List Kind) → (e : Enumerator) → (a b : ℕ) → HoldsEnumerator ks e a b → a ≤ b
enumerator_forth ks e a b h = spans_forth (spell_enumerator e) a b (spanned_enumerator ks e a b h)

pub enumerators_forth : (ks : List Kind) → (es : Enumerators) → (a b : ℕ) → HoldEnumerators ks es a b → a ≤ b
enumerators_forth ks es a b h = spans_forth (spell_enumerators es) a b (spanned_enumerators ks es a b h)

pub comma_forth : (ks : List Kind) → (t : Option ℕ) → (a b : ℕ) → HoldsComma ks t a b → a ≤ b
comma_forth ks t a b h = spans_forth (spell_comma t) a b (comma_spanned ks t a b h)
