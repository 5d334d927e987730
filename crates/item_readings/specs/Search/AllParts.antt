-- A search for each part of the grammar of expressions and declarations.
use Rattle.std.proofs.Common.{refl, ℕ, zero, suc, ◌+◌, ◌<◌, ◌≤◌, arith, List, length, Bool}
use Rattle.tree_data.specs.Trees.{Tree, Initial, Specifyings, Declaring, Assertion}
use Rattle.c_parser.specs.declared.kinds.Kind.{Kind}
use Rattle.c_parser.specs.Reading.{HoldsInitial, HoldSpecifyings, HoldsAssertion, HoldsDeclarator, Reads}
use Rattle.item_readings.specs.Search.Searches.{Search, Within, AheadSome, weight, tree_rank, front_rank, fronts_rank, Searches}
use Rattle.item_readings.specs.Search.Lists.{texts, comma, tag, qualifiers, names, pointers}
use Rattle.item_readings.specs.Search.Expressions.{tree}
use Rattle.item_readings.specs.Search.Operators.{behind, behinds, front, fronts}
use Rattle.item_readings.specs.Search.Initials.{braces, initial, piece, pieces, designator, designators, association, associations}
use Rattle.item_readings.specs.Search.Specifiers.{specifying, specifyings, enumerator, enumerators}
use Rattle.item_readings.specs.Search.Members.{member, members, field, fields, assertion}
use Rattle.item_readings.specs.Search.Declarators.{declarator, direct, naming, declaring, grouping}
use Rattle.item_readings.specs.Search.Derivings.{deriving_one, derivings, parameters, row, bound}

-- one step further in all of them
step : (size fuel : ℕ) → Searches size fuel → Searches size (suc fuel)
step size fuel searches = record {
  texts = texts size fuel searches;
  comma = comma size fuel searches;
  tag = tag size fuel searches;
  qualifiers = qualifiers size fuel searches;
  names = names size fuel searches;
  pointers = pointers size fuel searches;
  tree = tree size fuel searches;
  behind = behind size fuel searches;
  behinds = behinds size fuel searches;
  front = front size fuel searches;
  fronts = fronts size fuel searches;
  braces = braces size fuel searches;
  initial = initial size fuel searches;
  piece = piece size fuel searches;
  pieces = pieces size fuel searches;
  designator = designator size fuel searches;
  designators = designators size fuel searches;
  association = association size fuel searches;
  associations = associations size fuel searches;
  specifying = specifying size fuel searches;
  specifyings = specifyings size fuel searches;
  enumerator = enumerator size fuel searches;
  enumerators = enumerators size fuel searches;
  member = member size fuel searches;
  members = members size fuel searches;
  field = field size fuel searches;
  fields = fields size fuel searches;
  assertion = assertion size fuel searches;
  declarator = declarator size fuel searches;
  direct = direct size fuel searches;
  naming = naming size fuel searches;
  declaring = declaring size fuel searches;
  grouping = grouping size fuel searches;
  deriving_one = deriving_one size fuel searches;
  derivings = derivings size fuel searches;
  parameters = parameters size fuel searches;
  row = row size fuel searches;
  bound = bound size fuel searches;
}

spent : (w r : ℕ) → w + r ≤ 0 → 0 < r → ⊥
spent w r l u = omega (arith, l, u)

-- nothing is left, so nothing is searched
start : (size : ℕ) → Searches size 0
start size = record {
  texts = λ ks long a left Goal found. absurd (spent (weight size a) (1) left (omega arith));
  comma = λ ks long a left Goal found. absurd (spent (weight size a) (1) left (omega arith));
  tag = λ ks long a left Goal found. absurd (spent (weight size a) (1) left (omega arith));
  qualifiers = λ ks long a left Goal found. absurd (spent (weight size a) (1) left (omega arith));
  names = λ ks long a left Goal found. absurd (spent (weight size a) (1) left (omega arith));
  pointers = λ ks long a left Goal found. absurd (spent (weight size a) (2) left (omega arith));
  tree = λ ks long r a left Goal found. absurd (spent (weight size a) (tree_rank r) left (omega arith));
  behind = λ ks long l a left Goal found. absurd (spent (weight size a) (1) left (omega arith));
  behinds = λ ks long l a left Goal found. absurd (spent (weight size a) (2) left (omega arith));
  front = λ ks long l a left Goal found. absurd (spent (weight size a) (front_rank l) left (omega arith));
  fronts = λ ks long l a left Goal found. absurd (spent (weight size a) (fronts_rank l) left (omega arith));
  braces = λ ks long a left Goal found. absurd (spent (weight size a) (1) left (omega arith));
  initial = λ ks long a left Goal found. absurd (spent (weight size a) (100) left (omega arith));
  piece = λ ks long a left Goal found. absurd (spent (weight size a) (101) left (omega arith));
  pieces = λ ks long a left Goal found. absurd (spent (weight size a) (1) left (omega arith));
  designator = λ ks long a left Goal found. absurd (spent (weight size a) (1) left (omega arith));
  designators = λ ks long a left Goal found. absurd (spent (weight size a) (2) left (omega arith));
  association = λ ks long a left Goal found. absurd (spent (weight size a) (15) left (omega arith));
  associations = λ ks long a left Goal found. absurd (spent (weight size a) (1) left (omega arith));
  specifying = λ ks long typed a left Goal found. absurd (spent (weight size a) (1) left (omega arith));
  specifyings = λ ks long typed a left Goal found. absurd (spent (weight size a) (2) left (omega arith));
  enumerator = λ ks long a left Goal found. absurd (spent (weight size a) (1) left (omega arith));
  enumerators = λ ks long a left Goal found. absurd (spent (weight size a) (1) left (omega arith));
  member = λ ks long a left Goal found. absurd (spent (weight size a) (16) left (omega arith));
  members = λ ks long a left Goal found. absurd (spent (weight size a) (17) left (omega arith));
  field = λ ks long plain a left Goal found. absurd (spent (weight size a) (12) left (omega arith));
  fields = λ ks long a left Goal found. absurd (spent (weight size a) (1) left (omega arith));
  assertion = λ ks long a left Goal found. absurd (spent (weight size a) (1) left (omega arith));
  declarator = λ ks long plain a left Goal found. absurd (spent (weight size a) (11) left (omega arith));
  direct = λ ks long plain a left Goal found. absurd (spent (weight size a) (1) left (omega arith));
  naming = λ ks long named a left Goal found. absurd (spent (weight size a) (11) left (omega arith));
  declaring = λ ks long named a left Goal found. absurd (spent (weight size a) (10) left (omega arith));
  grouping = λ ks long named a left Goal found. absurd (spent (weight size a) (1) left (omega arith));
  deriving_one = λ ks long a left Goal found. absurd (spent (weight size a) (1) left (omega arith));
  derivings = λ ks long a left Goal found. absurd (spent (weight size a) (2) left (omega arith));
  parameters = λ ks long a left Goal found. absurd (spent (weight size a) (12) left (omega arith));
  row = λ ks long a left Goal found. absurd (spent (weight size a) (1) left (omega arith));
  bound = λ ks long a left Goal found. absurd (spent (weight size a) (100) left (omega arith));
}

searches_of : (size fuel : ℕ) → Searches size fuel
searches_of size zero = start size
searches_of size (suc fuel) = step size fuel (searches_of size fuel)

pub any_tree : (ks : List Kind) → (r : ℕ) → (a : ℕ) → Search Tree (λ t e. Reads ks r t a e) (λ t e. Within (length ks) a e)
any_tree ks r a = (searches_of (length ks) (weight (length ks) a + tree_rank r)).tree ks refl r a (omega arith)

pub any_initial : (ks : List Kind) → (a : ℕ) → Search Initial (λ t e. HoldsInitial ks t a e) (λ t e. Within (length ks) a e)
any_initial ks a = (searches_of (length ks) (weight (length ks) a + 100)).initial ks refl a (omega arith)

pub any_specifyings : (ks : List Kind) → (typed : Bool) → (a : ℕ) → Search Specifyings (λ t e. HoldSpecifyings ks typed t a e) (λ t e. AheadSome (length ks) t a e)
any_specifyings ks typed a = (searches_of (length ks) (weight (length ks) a + 2)).specifyings ks refl typed a (omega arith)

pub any_assertion : (ks : List Kind) → (a : ℕ) → Search Assertion (λ t e. HoldsAssertion ks t a e) (λ t e. Within (length ks) a e)
any_assertion ks a = (searches_of (length ks) (weight (length ks) a + 1)).assertion ks refl a (omega arith)

pub any_declarator : (ks : List Kind) → (plain : Bool) → (a : ℕ) → Search Declaring (λ t e. HoldsDeclarator ks plain t a e) (λ t e. Within (length ks) a e)
any_declarator ks plain a = (searches_of (length ks) (weight (length ks) a + 11)).declarator ks refl plain a (omega arith)
