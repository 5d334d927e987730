-- The warnings across units are those without tokens, each on the token that its name has.
use Rattle.std.proofs.Common.{◌≡◌, ℕ, suc, ◌+◌, Bool, true, false, cond, is_some, bytes_eq, List, [], ◌∷◌, ◌++◌, Option, Some, None, option_map, option_and_then, map, refl, sym, ap, ◌∙◌, append_assoc, append-nil, drop, arith}
use Rattle.std.specs.Cmp.Lexicographic.{pointwise}
use Rattle.std.specs.Prelude.{nat_eq, ◌&&◌}
use Rattle.std.specs.List.{flat_map, slice_get}
use Rattle.std.proofs.lemmas.Grind.{flat_map-append}
use Rattle.tok_data.specs.declared.sources.TokId.{TokId}
use Rattle.scope_tables.specs.declared.units.Export.{Export}
use Rattle.unit_index.specs.declared.across.CrossFault.{CrossFault}
use Rattle.unit_index.specs.declared.crossing.Crossing.{Crossing}
use Rattle.unit_index.specs.declared.crossing.Wrong.TheVariants.{OtherType, DefinedToo}
use Rattle.unit_index.specs.declared.exported.Does.{Does}
use Rattle.unit_index.specs.declared.exported.Does.TheVariants.{Declares, Defines}
use Rattle.unit_index.specs.Cross.{by_definition, by_type, cross, defined_too, differing, fault, of_name, of_unit}
use Rattle.unit_index.specs.Exported.{From, Shown, does_it, first, first_in, from, one}
use Rattle.unit_index.specs.Firsts.{first_some, given, or_else}
use Rattle.unit_index.specs.Handles.{Tagging}
use Rattle.unit_index.specs.Matching.{Test}
use Rattle.unit_index.proofs.FirstLemmas.{rest_here, rest_none}
use Rattle.unit_index.specs.Crossing.{Sight, all_crossings, all_placed, on_token, token_of, crossing, crossings, defined, definition_told, differs, does_seen, first_seen, on_name, on_names, one_seen, origin, placed, seen, seen_in, sight, twice, typed, types_told}

-- ---- who is first

or_mapped : {B D : Type 0} (h : B → D) (a b : Option B) → option_map h (or_else a b) ≡ or_else (option_map h a) (option_map h b)
or_mapped h None b = refl
or_mapped h (Some x) b = refl

first_mapped : {A B C D : Type 0} (f : A → Option B) (g : C → Option D) (h : B → D) (k : A → C) → ((x : A) → option_map h (f x) ≡ g (k x)) →
    (xs : List A) → option_map h (first_some f xs) ≡ first_some g (map k xs)
first_mapped f g h k each [] = refl
first_mapped f g h k each (x ∷ xs) = or_mapped h (f x) (first_some f xs) ∙ (λ i. or_else (each x i) (first_mapped f g h k each xs i))

given_mapped : {A B : Type 0} (h : A → B) (b : Bool) (a : A) → option_map h (given b a) ≡ given b (h a)
given_mapped h true a = refl
given_mapped h false a = refl

does_alike : (does : Does) (e : Export) → does_it does e ≡ does_seen does (seen e)
does_alike Declares e = refl
does_alike Defines e = refl

one_alike : (does : Does) (path : List ℕ) (tags : Tagging) (q : List ℕ) (e : Export) → option_map origin (one does path tags q e) ≡ one_seen does path tags q (seen e)
one_alike does path tags q e =
    given_mapped origin (does_it does e && pointwise nat_eq e.name q) (from path tags e)
    ∙ ap (λ b. given (b && pointwise nat_eq e.name q) (origin (from path tags e))) (does_alike does e)

pub first_alike : (does : Does) (us : List Shown) (q : List ℕ) → option_map origin (first does us q) ≡ first_seen does (map sight us) q
first_alike does us q =
    first_mapped (first_in does q) (seen_in does q) origin sight
    (λ u. first_mapped (one does u.path u.exports.tags q) (one_seen does u.path u.exports.tags q) origin seen (one_alike does u.path u.exports.tags q) u.exports.names) us

-- ---- one name

module _ (test : Test) (u : Shown) (n : ℕ) (e : Export) (here : slice_get u.exports.names n ≡ Some e) where
  abbrev on_tokens : List Crossing → List CrossFault
  on_tokens cs = flat_map (placed u) cs

  unless : (b : Bool) (cs : List Crossing) (fs : List CrossFault) → on_tokens cs ≡ fs → on_tokens (cond b [] cs) ≡ cond b [] fs
  unless true cs fs same = refl
  unless false cs fs same = same

  type_there : (message : List ℕ) → on_tokens (crossing n OtherType message ∷ []) ≡ fault u.path 801 e.first message ∷ []
  type_there message = ap (λ o. on_token u.path 801 message (option_and_then (λ x. token_of x OtherType) o) ++ []) here

  typed_there : (f : Option From) → on_tokens (typed test (option_map origin f) u.path u.exports.tags n (seen e)) ≡ by_type test f u.path u.exports.tags e
  typed_there None = refl
  typed_there (Some f) =
      unless (bytes_eq f.path u.path) (differs test (origin f) u.exports.tags n (seen e)) (differing test f u.path u.exports.tags e)
      (unless (test f.tags u.exports.tags f.export.ty e.ty) (crossing n OtherType (types_told (origin f) u.exports.tags (seen e)) ∷ []) _ (type_there (types_told (origin f) u.exports.tags (seen e))))

  twice_there : (first : List ℕ) (tok : Option TokId) → e.defined ≡ tok → on_tokens (cond (is_some tok) (crossing n DefinedToo (definition_told first (seen e)) ∷ []) []) ≡ defined_too first u.path e tok
  twice_there first None is = refl
  twice_there first (Some tok) is =
      ap (λ o. on_token u.path 802 (definition_told first (seen e)) (option_and_then (λ x. token_of x DefinedToo) o) ++ []) here ∙ ap (λ t. on_token u.path 802 (definition_told first (seen e)) t ++ []) is

  defined_there : (f : Option From) → on_tokens (defined (option_map origin f) u.path n (seen e)) ≡ by_definition f u.path e
  defined_there None = refl
  defined_there (Some f) = unless (bytes_eq f.path u.path) (twice f.path n (seen e)) (defined_too f.path u.path e e.defined) (twice_there f.path e.defined refl)

  name_there : (us : List Shown) → on_tokens (on_name test (map sight us) u.path u.exports.tags n (seen e)) ≡ of_name test us u e
  name_there us =
      flat_map-append (placed u) (typed test (first_seen Declares (map sight us) e.name) u.path u.exports.tags n (seen e)) (defined (first_seen Defines (map sight us) e.name) u.path n (seen e))
      ∙ (λ i. on_tokens (typed test (sym (first_alike Declares us e.name) i) u.path u.exports.tags n (seen e)) ++ on_tokens (defined (sym (first_alike Defines us e.name) i) u.path n (seen e)))
      ∙ (λ i. typed_there (first Declares us e.name) i ++ defined_there (first Defines us e.name) i)

-- ---- all names of a unit

names_there : (test : Test) (us : List Shown) (u : Shown) (rest : List Export) (n : ℕ) → ((i : ℕ) → slice_get u.exports.names (n + i) ≡ slice_get rest i) →
    flat_map (placed u) (on_names test (map sight us) u.path u.exports.tags n (map seen rest)) ≡ flat_map (of_name test us u) rest
names_there test us u [] n all = refl
names_there test us u (e ∷ rest) n all =
    let here : slice_get u.exports.names n ≡ Some e = ap (slice_get u.exports.names) (let same : n ≡ n + 0 = omega arith in same) ∙ all 0 in
    let later : (i : ℕ) → slice_get u.exports.names ((n + 1) + i) ≡ slice_get rest i =
    λ i. ap (slice_get u.exports.names) (let same : (n + 1) + i ≡ n + suc i = omega arith in same) ∙ all (suc i) in
    flat_map-append (placed u) (on_name test (map sight us) u.path u.exports.tags n (seen e)) (on_names test (map sight us) u.path u.exports.tags (n + 1) (map seen rest))
    ∙ (λ i. name_there test u n e here us i ++ names_there test us u rest (n + 1) later i)

unit_there : (test : Test) (us : List Shown) (u : Shown) → flat_map (placed u) (crossings test (map sight us) (sight u)) ≡ of_unit test us u
unit_there test us u = names_there test us u u.exports.names 0 (λ i. ap (slice_get u.exports.names) (let same : 0 + i ≡ i = omega arith in same))

same_pieces : {A B : Type 0} (f g : A → List B) → ((x : A) → f x ≡ g x) → (xs : List A) → flat_map f xs ≡ flat_map g xs
same_pieces f g same [] = refl
same_pieces f g same (x ∷ xs) = λ i. same x i ++ same_pieces f g same xs i

pub placed_all : (test : Test) (us : List Shown) → cross test us ≡ flat_map (λ u. flat_map (placed u) (crossings test (map sight us) (sight u))) us
placed_all test us = same_pieces (of_unit test us) (λ u. flat_map (placed u) (crossings test (map sight us) (sight u))) (λ u. sym (unit_there test us u)) us

-- ---- of each unit, one behind the other

all_in_turn : (f : Shown → List Crossing) (us : List Shown) → all_placed us (map f us) ≡ flat_map (λ u. flat_map (placed u) (f u)) us
all_in_turn f [] = refl
all_in_turn f (u ∷ us) = ap (λ rest. flat_map (placed u) (f u) ++ rest) (all_in_turn f us)

map_twice : {A B C : Type 0} (g : B → C) (f : A → B) (xs : List A) → map g (map f xs) ≡ map (λ x. g (f x)) xs
map_twice g f [] = refl
map_twice g f (x ∷ xs) = ap (λ l. g (f x) ∷ l) (map_twice g f xs)

pub sights_mapped : (test : Test) (us : List Shown) → all_crossings test (map sight us) ≡ map (λ u. crossings test (map sight us) (sight u)) us
sights_mapped test us = map_twice (crossings test (map sight us)) sight us

-- warnings that are those of the units, on the tokens of these
pub placed_is : (test : Test) (us : List Shown) (css : List (List Crossing)) → css ≡ all_crossings test (map sight us) → all_placed us css ≡ cross test us
placed_is test us css are =
    ap (all_placed us) (are ∙ sights_mapped test us) ∙ all_in_turn (λ u. crossings test (map sight us) (sight u)) us ∙ sym (placed_all test us)

-- ---- loops

-- one name more
pub names_turn : (test : Test) (ss : List Sight) (path : List ℕ) (tags : Tagging) (names : List Export) (n : ℕ) (e : Export) (out now all : List Crossing) →
    Some e ≡ slice_get names n → now ≡ out ++ on_name test ss path tags n (seen e) → out ++ on_names test ss path tags n (map seen (drop n names)) ≡ all →
    now ++ on_names test ss path tags (n + 1) (map seen (drop (n + 1) names)) ≡ all
names_turn test ss path tags names n e out now all here is was =
    ap (λ l. l ++ on_names test ss path tags (n + 1) (map seen (drop (n + 1) names))) is
    ∙ append_assoc out (on_name test ss path tags n (seen e)) (on_names test ss path tags (n + 1) (map seen (drop (n + 1) names)))
    ∙ sym (ap (λ xs. out ++ on_names test ss path tags n (map seen xs)) (rest_here names n e here)) ∙ was

pub names_end : (test : Test) (ss : List Sight) (path : List ℕ) (tags : Tagging) (names : List Export) (n : ℕ) (out all : List Crossing) →
    None ≡ slice_get names n → out ++ on_names test ss path tags n (map seen (drop n names)) ≡ all → out ≡ all
names_end test ss path tags names n out all none was = sym (append-nil out) ∙ sym (ap (λ xs. out ++ on_names test ss path tags n (map seen xs)) (rest_none names n none)) ∙ was

-- one unit more
pub units_turn : {A B : Type 0} (f : A → B) (xs : List A) (n : ℕ) (x : A) (y : B) (out now all : List B) →
    Some x ≡ slice_get xs n → y ≡ f x → now ≡ out ++ y ∷ [] → out ++ map f (drop n xs) ≡ all → now ++ map f (drop (n + 1) xs) ≡ all
units_turn f xs n x y out now all here same is was =
    ap (λ l. l ++ map f (drop (n + 1) xs)) (is ∙ ap (λ z. out ++ z ∷ []) same) ∙ append_assoc out (f x ∷ []) (map f (drop (n + 1) xs))
    ∙ sym (ap (λ rest. out ++ map f rest) (rest_here xs n x here)) ∙ was

pub units_end : {A B : Type 0} (f : A → B) (xs : List A) (n : ℕ) (out all : List B) → None ≡ slice_get xs n → out ++ map f (drop n xs) ≡ all → out ≡ all
units_end f xs n out all none was = sym (append-nil out) ∙ sym (ap (λ rest. out ++ map f rest) (rest_none xs n none)) ∙ was

pub placing_turn : (us : List Shown) (css : List (List Crossing)) (n : ℕ) (u : Shown) (cs : List Crossing) (out now all : List CrossFault) →
    Some u ≡ slice_get us n → Some cs ≡ slice_get css n → now ≡ out ++ flat_map (placed u) cs → out ++ all_placed (drop n us) (drop n css) ≡ all →
    now ++ all_placed (drop (n + 1) us) (drop (n + 1) css) ≡ all
placing_turn us css n u cs out now all here there is was =
    ap (λ l. l ++ all_placed (drop (n + 1) us) (drop (n + 1) css)) is
    ∙ append_assoc out (flat_map (placed u) cs) (all_placed (drop (n + 1) us) (drop (n + 1) css))
    ∙ sym (λ i. out ++ all_placed (rest_here us n u here i) (rest_here css n cs there i)) ∙ was

none_placed : (us : List Shown) (css : List (List Crossing)) → css ≡ [] → all_placed us css ≡ []
none_placed [] css none = refl
none_placed (u ∷ us) css none = ap (all_placed (u ∷ us)) none

pub placing_end : (us : List Shown) (css : List (List Crossing)) (n : ℕ) (out all : List CrossFault) → None ≡ slice_get us n → out ++ all_placed (drop n us) (drop n css) ≡ all → out ≡ all
placing_end us css n out all none was = sym (append-nil out) ∙ sym (ap (λ rest. out ++ all_placed rest (drop n css)) (rest_none us n none)) ∙ was

pub placing_ends : (us : List Shown) (css : List (List Crossing)) (n : ℕ) (out all : List CrossFault) → None ≡ slice_get css n → out ++ all_placed (drop n us) (drop n css) ≡ all → out ≡ all
placing_ends us css n out all none was =
    sym (append-nil out) ∙ sym (ap (λ l. out ++ l) (none_placed (drop n us) (drop n css) (rest_none css n none))) ∙ was

-- what is put behind for a name, by the first units that declare and define it
pub name_more : (test : Test) (us : List Shown) (path : List ℕ) (tags : Tagging) (n : ℕ) (e : Export) (d f : Option From) (out made now : List Crossing) →
    d ≡ first Declares us e.name → f ≡ first Defines us e.name → made ≡ out ++ typed test (option_map origin d) path tags n (seen e) → now ≡ made ++ defined (option_map origin f) path n (seen e) →
    now ≡ out ++ on_name test (map sight us) path tags n (seen e)
name_more test us path tags n e d f out made now declares defines one two =
    two ∙ ap (λ l. l ++ defined (option_map origin f) path n (seen e)) one
    ∙ append_assoc out (typed test (option_map origin d) path tags n (seen e)) (defined (option_map origin f) path n (seen e))
    ∙ (λ i. out ++ (typed test ((ap (option_map origin) declares ∙ first_alike Declares us e.name) i) path tags n (seen e) ++ defined ((ap (option_map origin) defines ∙ first_alike Defines us e.name) i) path n (seen e)))
