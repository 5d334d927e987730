-- Arrays, functions and their parameters (ISO C11 6.7.6, 6.7.7).
use Rattle.std.proofs.Common.{◌≡◌, refl, ℕ, suc, ◌+◌, ◌≤◌, arith, List, length, true, false}
use Rattle.tree_data.specs.Trees.{Tree, Naming, No_parameters, Fixed_of, Variadic_of, Names_of, Parameters, Row, No_more, Parameter_then, Deriving, Array_of, Function_of, Derivings, No_derivings, Deriving_then, Bound, Unsized_of, Any_size_of, Sized_of, Static_sized_of, Sized_static_of}
use Rattle.c_parser.specs.declared.kinds.Kind.{Kind}
use Rattle.c_parser.specs.declared.kinds.Kind.TheVariants.{CloseBracket, CloseParen, Comma, Ellipsis, Identifier, OpenBracket, OpenParen, Star, Static}
use Rattle.c_parser.specs.Enumerations.{bars}
use Rattle.c_parser.specs.Declarators.{AreThere}
use Rattle.c_parser.specs.Grammar.{past}
use Rattle.c_parser.specs.Kinds.{kind_at}
use Rattle.c_parser.specs.Reading.{HoldQualifiers, HoldNames, HoldsNaming, HoldsDeriving, HoldDerivings, HoldParameters, HoldRow, HoldsBound, Reads}
use Rattle.item_readings.specs.Search.Deciding.{and_then, at_place, first, dec_bool, dec_kind, dec_there}
use Rattle.item_readings.specs.Search.Searches.{Search, Within, weight, tree_rank, Searches, next, stays, past_length, inside_kind}

abbrev Deriving_one_array_plan : List Kind → ℕ → (Deriving → ℕ → Type 0) → Type 0
Deriving_one_array_plan ks a Goal =
    (o : ℕ) × (o ≡ a)
    × ((kind_at ks a ≡ OpenBracket)
    × ((x : Bound) × (c : ℕ) × HoldsBound ks x (a + 1) c
    × ((kind_at ks c ≡ CloseBracket)
    × ((b : ℕ) × (b ≡ c + 1)
    × (Goal (Array_of o x c) b)))))

deriving_one_array_decided : (size fuel : ℕ) → Searches size fuel → (ks : List Kind) → length ks ≡ size → (a : ℕ)
    → weight size a + 1 ≤ suc fuel
    → (Goal : Deriving → ℕ → Type 0)
    → ((t : Deriving) → (e : ℕ) → HoldsDeriving ks t a e → Within size a e → Dec (Goal t e))
    → Dec (Deriving_one_array_plan ks a Goal)
deriving_one_array_decided size fuel searches ks long a left Goal found =
    at_place a (
    and_then (dec_kind (kind_at ks a) OpenBracket refl) (λ x1.
    searches.bound ks long (a + 1) (next size fuel a (a + 1) 1 100 (inside_kind ks size a long OpenBracket refl x1) (omega arith) (omega arith) left) _ (λ x c x2 w2.
    and_then (dec_kind (kind_at ks c) CloseBracket refl) (λ x3.
    at_place (c + 1) (
    found (Array_of a x c) (c + 1) (refl, x1, x2, x3, refl) (record { forth = omega (arith, w2); inside = (inside_kind ks size a long OpenBracket refl x1) }))))))

abbrev Deriving_one_function_plan : List Kind → ℕ → (Deriving → ℕ → Type 0) → Type 0
Deriving_one_function_plan ks a Goal =
    (o : ℕ) × (o ≡ a)
    × ((kind_at ks a ≡ OpenParen)
    × ((ps : Parameters) × (c : ℕ) × HoldParameters ks ps (a + 1) c
    × ((kind_at ks c ≡ CloseParen)
    × ((b : ℕ) × (b ≡ c + 1)
    × ((bars ks o c ≡ false)
    × (Goal (Function_of o ps c) b))))))

deriving_one_function_decided : (size fuel : ℕ) → Searches size fuel → (ks : List Kind) → length ks ≡ size → (a : ℕ)
    → weight size a + 1 ≤ suc fuel
    → (Goal : Deriving → ℕ → Type 0)
    → ((t : Deriving) → (e : ℕ) → HoldsDeriving ks t a e → Within size a e → Dec (Goal t e))
    → Dec (Deriving_one_function_plan ks a Goal)
deriving_one_function_decided size fuel searches ks long a left Goal found =
    at_place a (
    and_then (dec_kind (kind_at ks a) OpenParen refl) (λ x1.
    searches.parameters ks long (a + 1) (next size fuel a (a + 1) 1 12 (inside_kind ks size a long OpenParen refl x1) (omega arith) (omega arith) left) _ (λ ps c x2 w2.
    and_then (dec_kind (kind_at ks c) CloseParen refl) (λ x3.
    at_place (c + 1) (
    and_then (dec_bool (bars ks a c) false) (λ x5.
    found (Function_of a ps c) (c + 1) (refl, x1, x2, x3, refl, x5) (record { forth = omega (arith, w2); inside = (inside_kind ks size a long OpenParen refl x1) })))))))

no_deriving_one : (ks : List Kind) → (a : ℕ) → (Goal : Deriving → ℕ → Type 0)
    → (Deriving_one_array_plan ks a Goal → ⊥)
    → (Deriving_one_function_plan ks a Goal → ⊥)
    → (t : Deriving) → (e : ℕ) → HoldsDeriving ks t a e → Goal t e → ⊥
no_deriving_one ks a Goal n0 n1 (Array_of o x c) b h p0 = n0 (o, h.0, (h.1, (x, c, h.2, (h.3, (b, h.4, p0)))))
no_deriving_one ks a Goal n0 n1 (Function_of o ps c) b h p0 = n1 (o, h.0, (h.1, (ps, c, h.2, (h.3, (b, h.4, (h.5, p0))))))

pub deriving_one : (size fuel : ℕ) → Searches size fuel → (ks : List Kind) → length ks ≡ size → (a : ℕ)
    → weight size a + 1 ≤ suc fuel
    → Search Deriving (λ t e. HoldsDeriving ks t a e) (λ t e. Within size a e)
deriving_one size fuel searches ks long a left Goal found =
    first (deriving_one_array_decided size fuel searches ks long a left Goal found) (λ z. ((Array_of z.0 z.2.1.0 z.2.1.1), z.2.1.3.1.0, (z.1, z.2.0, z.2.1.2, z.2.1.3.0, z.2.1.3.1.1), z.2.1.3.1.2)) (λ n0.
    first (deriving_one_function_decided size fuel searches ks long a left Goal found) (λ z. ((Function_of z.0 z.2.1.0 z.2.1.1), z.2.1.3.1.0, (z.1, z.2.0, z.2.1.2, z.2.1.3.0, z.2.1.3.1.1, z.2.1.3.1.2.0), z.2.1.3.1.2.1)) (λ n1.
    no (λ z. no_deriving_one ks a Goal n0 n1 z.0 z.1 z.2 z.3)))

abbrev Derivings_no_derivings_plan : List Kind → ℕ → (Derivings → ℕ → Type 0) → Type 0
Derivings_no_derivings_plan ks a Goal =
    (b : ℕ) × (b ≡ a)
    × (Goal No_derivings b)

derivings_no_derivings_decided : (size fuel : ℕ) → Searches size fuel → (ks : List Kind) → length ks ≡ size → (a : ℕ)
    → weight size a + 2 ≤ suc fuel
    → (Goal : Derivings → ℕ → Type 0)
    → ((t : Derivings) → (e : ℕ) → HoldDerivings ks t a e → a ≤ e → Dec (Goal t e))
    → Dec (Derivings_no_derivings_plan ks a Goal)
derivings_no_derivings_decided size fuel searches ks long a left Goal found =
    at_place a (
    found No_derivings a refl (omega arith))

abbrev Derivings_deriving_then_plan : List Kind → ℕ → (Derivings → ℕ → Type 0) → Type 0
Derivings_deriving_then_plan ks a Goal =
    (d : Deriving) × (m : ℕ) × HoldsDeriving ks d a m
    × ((ds : Derivings) × (b : ℕ) × HoldDerivings ks ds m b
    × (Goal (Deriving_then d ds) b))

derivings_deriving_then_decided : (size fuel : ℕ) → Searches size fuel → (ks : List Kind) → length ks ≡ size → (a : ℕ)
    → weight size a + 2 ≤ suc fuel
    → (Goal : Derivings → ℕ → Type 0)
    → ((t : Derivings) → (e : ℕ) → HoldDerivings ks t a e → a ≤ e → Dec (Goal t e))
    → Dec (Derivings_deriving_then_plan ks a Goal)
derivings_deriving_then_decided size fuel searches ks long a left Goal found =
    searches.deriving_one ks long a (stays size fuel a a 2 1 (omega arith) (omega arith) left) _ (λ d m x0 w0.
    searches.derivings ks long m (next size fuel a m 2 2 w0.inside (omega (arith, w0.forth)) (omega arith) left) _ (λ ds b x1 w1.
    found (Deriving_then d ds) b (m, x0, x1) (omega (arith, w0.forth, w1))))

no_derivings : (ks : List Kind) → (a : ℕ) → (Goal : Derivings → ℕ → Type 0)
    → (Derivings_no_derivings_plan ks a Goal → ⊥)
    → (Derivings_deriving_then_plan ks a Goal → ⊥)
    → (t : Derivings) → (e : ℕ) → HoldDerivings ks t a e → Goal t e → ⊥
no_derivings ks a Goal n0 n1 No_derivings b h p0 = n0 (b, h, p0)
no_derivings ks a Goal n0 n1 (Deriving_then d ds) b h p0 = n1 (d, h.0, h.1, (ds, b, h.2, p0))

pub derivings : (size fuel : ℕ) → Searches size fuel → (ks : List Kind) → length ks ≡ size → (a : ℕ)
    → weight size a + 2 ≤ suc fuel
    → Search Derivings (λ t e. HoldDerivings ks t a e) (λ t e. a ≤ e)
derivings size fuel searches ks long a left Goal found =
    first (derivings_no_derivings_decided size fuel searches ks long a left Goal found) (λ z. (No_derivings, z.0, z.1, z.2)) (λ n0.
    first (derivings_deriving_then_decided size fuel searches ks long a left Goal found) (λ z. ((Deriving_then z.0 z.3.0), z.3.1, (z.1, z.2, z.3.2), z.3.3)) (λ n1.
    no (λ z. no_derivings ks a Goal n0 n1 z.0 z.1 z.2 z.3)))

abbrev Parameters_no_parameters_plan : List Kind → ℕ → (Parameters → ℕ → Type 0) → Type 0
Parameters_no_parameters_plan ks a Goal =
    (b : ℕ) × (b ≡ a)
    × (Goal No_parameters b)

parameters_no_parameters_decided : (size fuel : ℕ) → Searches size fuel → (ks : List Kind) → length ks ≡ size → (a : ℕ)
    → weight size a + 12 ≤ suc fuel
    → (Goal : Parameters → ℕ → Type 0)
    → ((t : Parameters) → (e : ℕ) → HoldParameters ks t a e → a ≤ e → Dec (Goal t e))
    → Dec (Parameters_no_parameters_plan ks a Goal)
parameters_no_parameters_decided size fuel searches ks long a left Goal found =
    at_place a (
    found No_parameters a refl (omega arith))

abbrev Parameters_fixed_plan : List Kind → ℕ → (Parameters → ℕ → Type 0) → Type 0
Parameters_fixed_plan ks a Goal =
    (p : Naming) × (m : ℕ) × HoldsNaming ks true p a m
    × ((ps : Row) × (b : ℕ) × HoldRow (past ks p) ps m b
    × (Goal (Fixed_of p ps) b))

parameters_fixed_decided : (size fuel : ℕ) → Searches size fuel → (ks : List Kind) → length ks ≡ size → (a : ℕ)
    → weight size a + 12 ≤ suc fuel
    → (Goal : Parameters → ℕ → Type 0)
    → ((t : Parameters) → (e : ℕ) → HoldParameters ks t a e → a ≤ e → Dec (Goal t e))
    → Dec (Parameters_fixed_plan ks a Goal)
parameters_fixed_decided size fuel searches ks long a left Goal found =
    searches.naming ks long true a (stays size fuel a a 12 11 (omega arith) (omega arith) left) _ (λ p m x0 w0.
    searches.row (past ks p) (past_length ks size p long) m (next size fuel a m 12 1 w0.inside (omega (arith, w0.forth)) (omega arith) left) _ (λ ps b x1 w1.
    found (Fixed_of p ps) b (m, x0, x1) (omega (arith, w0.forth, w1))))

abbrev Parameters_variadic_plan : List Kind → ℕ → (Parameters → ℕ → Type 0) → Type 0
Parameters_variadic_plan ks a Goal =
    (p : Naming) × (m : ℕ) × HoldsNaming ks true p a m
    × ((ps : Row) × (o : ℕ) × HoldRow (past ks p) ps m o
    × ((kind_at ks o ≡ Comma)
    × ((d : ℕ) × (d ≡ o + 1)
    × ((kind_at ks d ≡ Ellipsis)
    × ((b : ℕ) × (b ≡ d + 1)
    × (Goal (Variadic_of p ps o d) b))))))

parameters_variadic_decided : (size fuel : ℕ) → Searches size fuel → (ks : List Kind) → length ks ≡ size → (a : ℕ)
    → weight size a + 12 ≤ suc fuel
    → (Goal : Parameters → ℕ → Type 0)
    → ((t : Parameters) → (e : ℕ) → HoldParameters ks t a e → a ≤ e → Dec (Goal t e))
    → Dec (Parameters_variadic_plan ks a Goal)
parameters_variadic_decided size fuel searches ks long a left Goal found =
    searches.naming ks long true a (stays size fuel a a 12 11 (omega arith) (omega arith) left) _ (λ p m x0 w0.
    searches.row (past ks p) (past_length ks size p long) m (next size fuel a m 12 1 w0.inside (omega (arith, w0.forth)) (omega arith) left) _ (λ ps o x1 w1.
    and_then (dec_kind (kind_at ks o) Comma refl) (λ x2.
    at_place (o + 1) (
    and_then (dec_kind (kind_at ks (o + 1)) Ellipsis refl) (λ x4.
    at_place ((o + 1) + 1) (
    found (Variadic_of p ps o (o + 1)) ((o + 1) + 1) (m, x0, x1, x2, refl, x4, refl) (omega (arith, w0.forth, w1))))))))

abbrev Parameters_names_plan : List Kind → ℕ → (Parameters → ℕ → Type 0) → Type 0
Parameters_names_plan ks a Goal =
    (n : ℕ) × (n ≡ a)
    × ((kind_at ks a ≡ Identifier)
    × ((ns : List (ℕ × ℕ)) × (b : ℕ) × HoldNames ks ns (a + 1) b
    × (Goal (Names_of n ns) b)))

parameters_names_decided : (size fuel : ℕ) → Searches size fuel → (ks : List Kind) → length ks ≡ size → (a : ℕ)
    → weight size a + 12 ≤ suc fuel
    → (Goal : Parameters → ℕ → Type 0)
    → ((t : Parameters) → (e : ℕ) → HoldParameters ks t a e → a ≤ e → Dec (Goal t e))
    → Dec (Parameters_names_plan ks a Goal)
parameters_names_decided size fuel searches ks long a left Goal found =
    at_place a (
    and_then (dec_kind (kind_at ks a) Identifier refl) (λ x1.
    searches.names ks long (a + 1) (next size fuel a (a + 1) 12 1 (inside_kind ks size a long Identifier refl x1) (omega arith) (omega arith) left) _ (λ ns b x2 w2.
    found (Names_of a ns) b (refl, x1, x2) (omega (arith, w2)))))

no_parameters : (ks : List Kind) → (a : ℕ) → (Goal : Parameters → ℕ → Type 0)
    → (Parameters_no_parameters_plan ks a Goal → ⊥)
    → (Parameters_fixed_plan ks a Goal → ⊥)
    → (Parameters_variadic_plan ks a Goal → ⊥)
    → (Parameters_names_plan ks a Goal → ⊥)
    → (t : Parameters) → (e : ℕ) → HoldParameters ks t a e → Goal t e → ⊥
no_parameters ks a Goal n0 n1 n2 n3 No_parameters b h p0 = n0 (b, h, p0)
no_parameters ks a Goal n0 n1 n2 n3 (Fixed_of p ps) b h p0 = n1 (p, h.0, h.1, (ps, b, h.2, p0))
no_parameters ks a Goal n0 n1 n2 n3 (Variadic_of p ps o d) b h p0 = n2 (p, h.0, h.1, (ps, o, h.2, (h.3, (d, h.4, (h.5, (b, h.6, p0))))))
no_parameters ks a Goal n0 n1 n2 n3 (Names_of n ns) b h p0 = n3 (n, h.0, (h.1, (ns, b, h.2, p0)))

pub parameters : (size fuel : ℕ) → Searches size fuel → (ks : List Kind) → length ks ≡ size → (a : ℕ)
    → weight size a + 12 ≤ suc fuel
    → Search Parameters (λ t e. HoldParameters ks t a e) (λ t e. a ≤ e)
parameters size fuel searches ks long a left Goal found =
    first (parameters_no_parameters_decided size fuel searches ks long a left Goal found) (λ z. (No_parameters, z.0, z.1, z.2)) (λ n0.
    first (parameters_fixed_decided size fuel searches ks long a left Goal found) (λ z. ((Fixed_of z.0 z.3.0), z.3.1, (z.1, z.2, z.3.2), z.3.3)) (λ n1.
    first (parameters_variadic_decided size fuel searches ks long a left Goal found) (λ z. ((Variadic_of z.0 z.3.0 z.3.1 z.3.3.1.0), z.3.3.1.2.1.0, (z.1, z.2, z.3.2, z.3.3.0, z.3.3.1.1, z.3.3.1.2.0, z.3.3.1.2.1.1), z.3.3.1.2.1.2)) (λ n2.
    first (parameters_names_decided size fuel searches ks long a left Goal found) (λ z. ((Names_of z.0 z.2.1.0), z.2.1.1, (z.1, z.2.0, z.2.1.2), z.2.1.3)) (λ n3.
    no (λ z. no_parameters ks a Goal n0 n1 n2 n3 z.0 z.1 z.2 z.3)))))

abbrev Row_no_more_plan : List Kind → ℕ → (Row → ℕ → Type 0) → Type 0
Row_no_more_plan ks a Goal =
    (b : ℕ) × (b ≡ a)
    × (Goal No_more b)

row_no_more_decided : (size fuel : ℕ) → Searches size fuel → (ks : List Kind) → length ks ≡ size → (a : ℕ)
    → weight size a + 1 ≤ suc fuel
    → (Goal : Row → ℕ → Type 0)
    → ((t : Row) → (e : ℕ) → HoldRow ks t a e → a ≤ e → Dec (Goal t e))
    → Dec (Row_no_more_plan ks a Goal)
row_no_more_decided size fuel searches ks long a left Goal found =
    at_place a (
    found No_more a refl (omega arith))

abbrev Row_parameter_then_plan : List Kind → ℕ → (Row → ℕ → Type 0) → Type 0
Row_parameter_then_plan ks a Goal =
    (o : ℕ) × (o ≡ a)
    × ((kind_at ks a ≡ Comma)
    × ((p : Naming) × (m : ℕ) × HoldsNaming ks true p (a + 1) m
    × ((ps : Row) × (b : ℕ) × HoldRow (past ks p) ps m b
    × (Goal (Parameter_then o p ps) b))))

row_parameter_then_decided : (size fuel : ℕ) → Searches size fuel → (ks : List Kind) → length ks ≡ size → (a : ℕ)
    → weight size a + 1 ≤ suc fuel
    → (Goal : Row → ℕ → Type 0)
    → ((t : Row) → (e : ℕ) → HoldRow ks t a e → a ≤ e → Dec (Goal t e))
    → Dec (Row_parameter_then_plan ks a Goal)
row_parameter_then_decided size fuel searches ks long a left Goal found =
    at_place a (
    and_then (dec_kind (kind_at ks a) Comma refl) (λ x1.
    searches.naming ks long true (a + 1) (next size fuel a (a + 1) 1 11 (inside_kind ks size a long Comma refl x1) (omega arith) (omega arith) left) _ (λ p m x2 w2.
    searches.row (past ks p) (past_length ks size p long) m (next size fuel a m 1 1 (inside_kind ks size a long Comma refl x1) (omega (arith, w2.forth)) (omega arith) left) _ (λ ps b x3 w3.
    found (Parameter_then a p ps) b (m, refl, x1, x2, x3) (omega (arith, w2.forth, w3))))))

no_row : (ks : List Kind) → (a : ℕ) → (Goal : Row → ℕ → Type 0)
    → (Row_no_more_plan ks a Goal → ⊥)
    → (Row_parameter_then_plan ks a Goal → ⊥)
    → (t : Row) → (e : ℕ) → HoldRow ks t a e → Goal t e → ⊥
no_row ks a Goal n0 n1 No_more b h p0 = n0 (b, h, p0)
no_row ks a Goal n0 n1 (Parameter_then o p ps) b h p0 = n1 (o, h.1, (h.2, (p, h.0, h.3, (ps, b, h.4, p0))))

pub row : (size fuel : ℕ) → Searches size fuel → (ks : List Kind) → length ks ≡ size → (a : ℕ)
    → weight size a + 1 ≤ suc fuel
    → Search Row (λ t e. HoldRow ks t a e) (λ t e. a ≤ e)
row size fuel searches ks long a left Goal found =
    first (row_no_more_decided size fuel searches ks long a left Goal found) (λ z. (No_more, z.0, z.1, z.2)) (λ n0.
    first (row_parameter_then_decided size fuel searches ks long a left Goal found) (λ z. ((Parameter_then z.0 z.2.1.0 z.2.1.3.0), z.2.1.3.1, (z.2.1.1, z.1, z.2.0, z.2.1.2, z.2.1.3.2), z.2.1.3.3)) (λ n1.
    no (λ z. no_row ks a Goal n0 n1 z.0 z.1 z.2 z.3)))

abbrev Bound_unsized_plan : List Kind → ℕ → (Bound → ℕ → Type 0) → Type 0
Bound_unsized_plan ks a Goal =
    (ns : List ℕ) × (b : ℕ) × HoldQualifiers ks ns a b
    × (Goal (Unsized_of ns) b)

bound_unsized_decided : (size fuel : ℕ) → Searches size fuel → (ks : List Kind) → length ks ≡ size → (a : ℕ)
    → weight size a + 100 ≤ suc fuel
    → (Goal : Bound → ℕ → Type 0)
    → ((t : Bound) → (e : ℕ) → HoldsBound ks t a e → a ≤ e → Dec (Goal t e))
    → Dec (Bound_unsized_plan ks a Goal)
bound_unsized_decided size fuel searches ks long a left Goal found =
    searches.qualifiers ks long a (stays size fuel a a 100 1 (omega arith) (omega arith) left) _ (λ ns b x0 w0.
    found (Unsized_of ns) b x0 (omega (arith, w0)))

abbrev Bound_sized_plan : List Kind → ℕ → (Bound → ℕ → Type 0) → Type 0
Bound_sized_plan ks a Goal =
    (ns : List ℕ) × (m : ℕ) × HoldQualifiers ks ns a m
    × ((t : Tree) × (b : ℕ) × Reads ks 2 t m b
    × (Goal (Sized_of ns t) b))

bound_sized_decided : (size fuel : ℕ) → Searches size fuel → (ks : List Kind) → length ks ≡ size → (a : ℕ)
    → weight size a + 100 ≤ suc fuel
    → (Goal : Bound → ℕ → Type 0)
    → ((t : Bound) → (e : ℕ) → HoldsBound ks t a e → a ≤ e → Dec (Goal t e))
    → Dec (Bound_sized_plan ks a Goal)
bound_sized_decided size fuel searches ks long a left Goal found =
    searches.qualifiers ks long a (stays size fuel a a 100 1 (omega arith) (omega arith) left) _ (λ ns m x0 w0.
    searches.tree ks long 2 m (stays size fuel a m 100 (tree_rank 2) (omega (arith, w0)) (omega arith) left) _ (λ t b x1 w1.
    found (Sized_of ns t) b (m, x0, x1.0, x1.1) (omega (arith, w0, w1.forth))))

abbrev Bound_static_sized_plan : List Kind → ℕ → (Bound → ℕ → Type 0) → Type 0
Bound_static_sized_plan ks a Goal =
    (n : ℕ) × (n ≡ a)
    × ((kind_at ks a ≡ Static)
    × ((ns : List ℕ) × (m : ℕ) × HoldQualifiers ks ns (a + 1) m
    × ((t : Tree) × (b : ℕ) × Reads ks 2 t m b
    × (Goal (Static_sized_of n ns t) b))))

bound_static_sized_decided : (size fuel : ℕ) → Searches size fuel → (ks : List Kind) → length ks ≡ size → (a : ℕ)
    → weight size a + 100 ≤ suc fuel
    → (Goal : Bound → ℕ → Type 0)
    → ((t : Bound) → (e : ℕ) → HoldsBound ks t a e → a ≤ e → Dec (Goal t e))
    → Dec (Bound_static_sized_plan ks a Goal)
bound_static_sized_decided size fuel searches ks long a left Goal found =
    at_place a (
    and_then (dec_kind (kind_at ks a) Static refl) (λ x1.
    searches.qualifiers ks long (a + 1) (next size fuel a (a + 1) 100 1 (inside_kind ks size a long Static refl x1) (omega arith) (omega arith) left) _ (λ ns m x2 w2.
    searches.tree ks long 2 m (next size fuel a m 100 (tree_rank 2) (inside_kind ks size a long Static refl x1) (omega (arith, w2)) (omega arith) left) _ (λ t b x3 w3.
    found (Static_sized_of a ns t) b (m, refl, x1, x2, x3.0, x3.1) (omega (arith, w2, w3.forth))))))

abbrev Bound_sized_static_plan : List Kind → ℕ → (Bound → ℕ → Type 0) → Type 0
Bound_sized_static_plan ks a Goal =
    (ns : List ℕ) × (n : ℕ) × HoldQualifiers ks ns a n
    × ((AreThere ns)
    × ((kind_at ks n ≡ Static)
    × ((t : Tree) × (b : ℕ) × Reads ks 2 t (n + 1) b
    × (Goal (Sized_static_of ns n t) b))))

bound_sized_static_decided : (size fuel : ℕ) → Searches size fuel → (ks : List Kind) → length ks ≡ size → (a : ℕ)
    → weight size a + 100 ≤ suc fuel
    → (Goal : Bound → ℕ → Type 0)
    → ((t : Bound) → (e : ℕ) → HoldsBound ks t a e → a ≤ e → Dec (Goal t e))
    → Dec (Bound_sized_static_plan ks a Goal)
bound_sized_static_decided size fuel searches ks long a left Goal found =
    searches.qualifiers ks long a (stays size fuel a a 100 1 (omega arith) (omega arith) left) _ (λ ns n x0 w0.
    and_then (dec_there ns) (λ x1.
    and_then (dec_kind (kind_at ks n) Static refl) (λ x2.
    searches.tree ks long 2 (n + 1) (stays size fuel a (n + 1) 100 (tree_rank 2) (omega (arith, w0)) (omega arith) left) _ (λ t b x3 w3.
    found (Sized_static_of ns n t) b (x1, x0, x2, x3.0, x3.1) (omega (arith, w0, w3.forth))))))

abbrev Bound_any_size_plan : List Kind → ℕ → (Bound → ℕ → Type 0) → Type 0
Bound_any_size_plan ks a Goal =
    (ns : List ℕ) × (n : ℕ) × HoldQualifiers ks ns a n
    × ((kind_at ks n ≡ Star)
    × ((b : ℕ) × (b ≡ n + 1)
    × (Goal (Any_size_of ns n) b)))

bound_any_size_decided : (size fuel : ℕ) → Searches size fuel → (ks : List Kind) → length ks ≡ size → (a : ℕ)
    → weight size a + 100 ≤ suc fuel
    → (Goal : Bound → ℕ → Type 0)
    → ((t : Bound) → (e : ℕ) → HoldsBound ks t a e → a ≤ e → Dec (Goal t e))
    → Dec (Bound_any_size_plan ks a Goal)
bound_any_size_decided size fuel searches ks long a left Goal found =
    searches.qualifiers ks long a (stays size fuel a a 100 1 (omega arith) (omega arith) left) _ (λ ns n x0 w0.
    and_then (dec_kind (kind_at ks n) Star refl) (λ x1.
    at_place (n + 1) (
    found (Any_size_of ns n) (n + 1) (x0, x1, refl) (omega (arith, w0)))))

no_bound : (ks : List Kind) → (a : ℕ) → (Goal : Bound → ℕ → Type 0)
    → (Bound_unsized_plan ks a Goal → ⊥)
    → (Bound_sized_plan ks a Goal → ⊥)
    → (Bound_static_sized_plan ks a Goal → ⊥)
    → (Bound_sized_static_plan ks a Goal → ⊥)
    → (Bound_any_size_plan ks a Goal → ⊥)
    → (t : Bound) → (e : ℕ) → HoldsBound ks t a e → Goal t e → ⊥
no_bound ks a Goal n0 n1 n2 n3 n4 (Unsized_of ns) b h p0 = n0 (ns, b, h, p0)
no_bound ks a Goal n0 n1 n2 n3 n4 (Sized_of ns t) b h p0 = n1 (ns, h.0, h.1, (t, b, (h.2, h.3), p0))
no_bound ks a Goal n0 n1 n2 n3 n4 (Static_sized_of n ns t) b h p0 = n2 (n, h.1, (h.2, (ns, h.0, h.3, (t, b, (h.4, h.5), p0))))
no_bound ks a Goal n0 n1 n2 n3 n4 (Sized_static_of ns n t) b h p0 = n3 (ns, n, h.1, (h.0, (h.2, (t, b, (h.3, h.4), p0))))
no_bound ks a Goal n0 n1 n2 n3 n4 (Any_size_of ns n) b h p0 = n4 (ns, n, h.0, (h.1, (b, h.2, p0)))

pub bound : (size fuel : ℕ) → Searches size fuel → (ks : List Kind) → length ks ≡ size → (a : ℕ)
    → weight size a + 100 ≤ suc fuel
    → Search Bound (λ t e. HoldsBound ks t a e) (λ t e. a ≤ e)
bound size fuel searches ks long a left Goal found =
    first (bound_unsized_decided size fuel searches ks long a left Goal found) (λ z. ((Unsized_of z.0), z.1, z.2, z.3)) (λ n0.
    first (bound_sized_decided size fuel searches ks long a left Goal found) (λ z. ((Sized_of z.0 z.3.0), z.3.1, (z.1, z.2, z.3.2.0, z.3.2.1), z.3.3)) (λ n1.
    first (bound_static_sized_decided size fuel searches ks long a left Goal found) (λ z. ((Static_sized_of z.0 z.2.1.0 z.2.1.3.0), z.2.1.3.1, (z.2.1.1, z.1, z.2.0, z.2.1.2, z.2.1.3.2.0, z.2.1.3.2.1), z.2.1.3.3)) (λ n2.
    first (bound_sized_static_decided size fuel searches ks long a left Goal found) (λ z. ((Sized_static_of z.0 z.1 z.3.1.1.0), z.3.1.1.1, (z.3.0, z.2, z.3.1.0, z.3.1.1.2.0, z.3.1.1.2.1), z.3.1.1.3)) (λ n3.
    first (bound_any_size_decided size fuel searches ks long a left Goal found) (λ z. ((Any_size_of z.0 z.1), z.3.1.0, (z.2, z.3.0, z.3.1.1), z.3.1.2)) (λ n4.
    no (λ z. no_bound ks a Goal n0 n1 n2 n3 n4 z.0 z.1 z.2 z.3))))))
