-- What reads no hide set is the same for tokens with numbers as for tokens with the sets that these stand for.
use Rattle.std.proofs.Common.{◌≡◌, ℕ, zero, suc, ◌+◌, ◌-◌, ◌==◌, Bool, true, false, ◌&&◌, ◌||◌, not, nat_lt, List, []}
use Rattle.std.proofs.Common.{◌∷◌, ◌++◌, length, drop, map, refl, ap, sym, ◌∙◌, if◌then◌else◌, bytes_eq, codes, Option}
use Rattle.std.specs.Prelude.{Some, None, option_map}
use Rattle.std.proofs.lemmas.List.{map-append, length-map}
use Rattle.tok_data.specs.declared.sources.TokId.{TokId}
use Rattle.tok_data.specs.declared.tokens.OutToken.{OutToken}
use Rattle.macro_table.specs.declared.definition.MacroDef.{MacroDef}
use Rattle.macro_expand.specs.declared.types.Marked.{Marked}
use Rattle.macro_expand.specs.declared.types.Progress.{Progress}
use Rattle.macro_expand.specs.declared.arguments.Reading.{Reading}
use Rattle.macro_expand.specs.declared.arguments.Called.{Called}
use Rattle.macro_expand.specs.declared.arguments.Called.TheVariants.{Closed}
use Rattle.macro_expand.specs.Ties.Reading.{Turn, Goes, Ends}
use Rattle.macro_expand.specs.declared.operands.Operand.{Operand}
use Rattle.macro_expand.specs.declared.building.Building.{Building}
use Rattle.macro_expand.specs.Ties.Codes.{Names}
use Rattle.macro_expand.specs.Ties.Numbers.{real, reals, real_args, real_called, real_operand, real_building}
use Rattle.macro_expand.specs.Tokens as token
use Rattle.macro_expand.specs.Tokens.{is_mark, is_ident, is_hash, plain, spaced, last_of, with_first}
use Rattle.macro_expand.specs.Arguments as arguments
use Rattle.macro_expand.specs.Ties.Reading as reads
use Rattle.macro_expand.specs.Ties.Reading.{parts, turn}
use Rattle.macro_expand.specs.Arguments.{names_of, fitted, lacks_variable, arg_of}
use Rattle.macro_expand.specs.Spelling as spelling
use Rattle.macro_expand.specs.Spelling.{string_of}
use Rattle.macro_expand.specs.Ties.Building as build
use Rattle.macro_expand.specs.Ties.Building.{operand}
use Rattle.macro_expand.proofs.Cases.{if_both}
use Rattle.macro_expand.proofs.ReadingLemmas.{reading_is}

abbrev pub real_reading : (Names → Names) → Reading → Reading
real_reading f r = record { depth = r.depth; done = real_args f r.done; current = reals f r.current }

abbrev pub real_turn : (Names → Names) → Turn → Turn
real_turn f (Goes r) = Goes (real_reading f r)
real_turn f (Ends c) = Ends (real_called f c)

abbrev reading : ℕ → List (List Marked) → List Marked → Reading
reading depth done current = record { depth = depth; done = done; current = current }

-- a call that is read
pub taken_real : (f : Names → Names) (t : Marked) (r : Reading)
    → reads.taken (real f t) (real_reading f r) ≡ real_reading f (reads.taken t r)
taken_real f t r =
    ap (reading r.depth (real_args f r.done)) (sym (map-append (real f) r.current (t ∷ [])))

pub parted_real : (f : Names → Names) (r : Reading)
    → reads.parted (real_reading f r) ≡ real_reading f (reads.parted r)
parted_real f r =
    ap (λ (args : List (List Marked)). reading r.depth args []) (sym (map-append (reals f) r.done (r.current ∷ [])))

pub opened_real : (f : Names → Names) (t : Marked) (r : Reading)
    → reads.opened (real f t) (real_reading f r) ≡ real_reading f (reads.opened t r)
opened_real f t r =
    if_both (λ (x y : Reading). x ≡ real_reading f y) (r.depth == 0) _ _ _ _ (λ _. refl)
    (λ _. ap (λ (x : Reading). (let deeper : Reading = record x { depth = r.depth + 1 } in deeper)) (taken_real f t r))

pub closed_real : (f : Names → Names) (t : Marked) (r : Reading) (at : ℕ)
    → reads.closed (real f t) (real_reading f r) at ≡ real_turn f (reads.closed t r at)
closed_real f t r at =
    if_both (λ (x y : Turn). x ≡ real_turn f y) (r.depth == 1) _ _ _ _
    (λ _. ap (λ (args : List (List Marked)). Ends (Closed args (f t.hides) (at + 1)))
    (sym (map-append (reals f) r.done (r.current ∷ []))))
    (λ _. ap (λ (x : Reading). Goes (record x { depth = r.depth - 1 })) (taken_real f t r))

pub parts_real : (f : Names → Names) (def : MacroDef) (r : Reading) (t : OutToken)
    → parts def (real_reading f r) t ≡ parts def r t
unfolding parts
parts_real f def r t =
    ap (λ (n : ℕ). is_mark (codes ",") t && r.depth == 1
    && (not def.variadic || nat_lt n (length (names_of def.params))))
    (length-map r.done (reals f))

pub turn_real : (f : Names → Names) (def : MacroDef) (at : ℕ) (r : Reading) (t : Marked)
    → turn def at (real_reading f r) (real f t) ≡ real_turn f (turn def at r t)
unfolding turn
turn_real f def at r t =
    if_both (λ (x y : Turn). x ≡ real_turn f y) (is_mark (codes "(") t.token) _ _ _ _
    (λ _. ap Goes (opened_real f t r))
    (λ _. if_both (λ (x y : Turn). x ≡ real_turn f y) (r.depth == 0) _ _ _ _ (λ _. refl)
    (λ _. if_both (λ (x y : Turn). x ≡ real_turn f y) (is_mark (codes ")") t.token) _ _ _ _
    (λ _. closed_real f t r at)
    (λ _. ap (λ (b : Bool). if b then Goes (reads.parted (real_reading f r))
    else Goes (reads.taken (real f t) (real_reading f r))) (parts_real f def r t.token)
    ∙ if_both (λ (x y : Turn). x ≡ real_turn f y) (parts def r t.token) _ _ _ _
    (λ _. ap Goes (parted_real f r)) (λ _. ap Goes (taken_real f t r)))))

pub turned_real : (f : Names → Names) (more more' : Reading → Called)
    → ((r : Reading) → more (real_reading f r) ≡ real_called f (more' r)) → (tn : Turn)
    → reads.turned more (real_turn f tn) ≡ real_called f (reads.turned more' tn)
turned_real f more more' same (Goes r) = same r
turned_real f more more' same (Ends c) = refl

pub reads_real : (f : Names → Names) (def : MacroDef) (at : ℕ) (r : Reading) (ts : List Marked)
    → reads.reads def at (real_reading f r) (reals f ts) ≡ real_called f (reads.reads def at r ts)
reads_real f def at r [] =
    if_both (λ (x y : Called). x ≡ real_called f y) (r.depth == 0) _ _ _ _ (λ _. refl) (λ _. refl)
reads_real f def at r (t ∷ ts) =
    ap (reads.turned (λ r'. reads.reads def (at + 1) r' (reals f ts))) (turn_real f def at r t)
    ∙ turned_real f (λ r'. reads.reads def (at + 1) r' (reals f ts)) (λ r'. reads.reads def (at + 1) r' ts)
    (λ r'. reads_real f def (at + 1) r' ts) (turn def at r t)

pub called_real : (f : Names → Names) (def : MacroDef) (ts : List Marked)
    → arguments.called def (reals f ts) ≡ real_called f (arguments.called def ts)
called_real f def ts =
    sym (reading_is def (reals f ts)) ∙ reads_real f def 0 reads.nothing_read ts ∙ ap (real_called f) (reading_is def ts)

-- arguments as the parameters take them
pub nothing_real : (f : Names → Names) (args : List (List Marked))
    → arguments.is_nothing (real_args f args) ≡ arguments.is_nothing args
nothing_real f [] = refl
nothing_real f ([] ∷ []) = refl
nothing_real f ([] ∷ (b ∷ more)) = refl
nothing_real f ((t ∷ ts) ∷ more) = refl

abbrev pub fitted_by : MacroDef → ℕ → Bool → List (List Marked) → Option (List (List Marked))
fitted_by def n nothing args =
    if def.variadic
    then (if n == length (names_of def.params) + 1 then Some args
    else (if n == length (names_of def.params) then Some (args ++ [] ∷ []) else None))
    else (if length (names_of def.params) == 0 && nothing then Some []
    else (if n == length (names_of def.params) then Some args else None))

pub fitted_by_real : (f : Names → Names) (def : MacroDef) (n : ℕ) (nothing : Bool) (args : List (List Marked))
    → fitted_by def n nothing (real_args f args) ≡ option_map (real_args f) (fitted_by def n nothing args)
fitted_by_real f def n nothing args =
    let P : Option (List (List Marked)) → Option (List (List Marked)) → Type 0 =
    λ x y. x ≡ option_map (real_args f) y in
    if_both P def.variadic _ _ _ _
    (λ _. if_both P (n == length (names_of def.params) + 1) _ _ _ _ (λ _. refl)
    (λ _. if_both P (n == length (names_of def.params)) _ _ _ _
    (λ _. ap Some (sym (map-append (reals f) args ([] ∷ [])))) (λ _. refl)))
    (λ _. if_both P (length (names_of def.params) == 0 && nothing) _ _ _ _ (λ _. refl)
    (λ _. if_both P (n == length (names_of def.params)) _ _ _ _ (λ _. refl) (λ _. refl)))

pub fitted_real : (f : Names → Names) (def : MacroDef) (args : List (List Marked))
    → fitted def (real_args f args) ≡ option_map (real_args f) (fitted def args)
unfolding fitted
fitted_real f def args =
    ap (λ (n : ℕ). fitted_by def n (arguments.is_nothing (real_args f args)) (real_args f args))
    (length-map args (reals f))
    ∙ ap (λ (b : Bool). fitted_by def (length args) b (real_args f args)) (nothing_real f args)
    ∙ fitted_by_real f def (length args) (arguments.is_nothing args) args

pub lacks_real : (f : Names → Names) (def : MacroDef) (args : List (List Marked))
    → lacks_variable def (real_args f args) ≡ lacks_variable def args
unfolding lacks_variable
lacks_real f def args =
    ap (λ (n : ℕ). def.variadic && n == length (names_of def.params)) (length-map args (reals f))

-- the argument of a parameter
pub arg_by_real : (f : Names → Names) (variadic : Bool) (names : List (List ℕ)) (args : List (List Marked))
    (name : List ℕ) → arguments.arg_by variadic names (real_args f args) name
    ≡ option_map (reals f) (arguments.arg_by variadic names args name)
arg_by_real f variadic names [] name = refl
arg_by_real f variadic [] (a ∷ args) name =
    if_both (λ (x y : Option (List Marked)). x ≡ option_map (reals f) y)
    (variadic && bytes_eq name (codes "__VA_ARGS__")) _ _ _ _ (λ _. refl) (λ _. refl)
arg_by_real f variadic (n ∷ names) (a ∷ args) name =
    if_both (λ (x y : Option (List Marked)). x ≡ option_map (reals f) y) (bytes_eq n name) _ _ _ _ (λ _. refl)
    (λ _. arg_by_real f variadic names args name)

pub arg_of_real : (f : Names → Names) (def : MacroDef) (args : List (List Marked)) (t : OutToken)
    → arg_of def (real_args f args) t ≡ option_map (reals f) (arg_of def args t)
unfolding arg_of
arg_of_real f def args t =
    if_both (λ (x y : Option (List Marked)). x ≡ option_map (reals f) y) (is_ident t.kind) _ _ _ _
    (λ _. arg_by_real f def.variadic (names_of def.params) args t.spelling) (λ _. refl)

-- what `#` spells
pub joined_real : (f : Names → Names) (first : Bool) (ts : List Marked)
    → spelling.joined first (reals f ts) ≡ spelling.joined first ts
joined_real f first [] = refl
joined_real f first (t ∷ ts) =
    ap (λ (more : List ℕ). spelling.blank first t.token.space_before ++ spelling.shown t.token ++ more)
    (joined_real f false ts)

pub sources_real : (f : Names → Names) (ts : List Marked) → spelling.sources (reals f ts) ≡ spelling.sources ts
sources_real f [] = refl
sources_real f (t ∷ ts) = ap (λ (more : List TokId). spelling.source_of t.token.spelt ++ more) (sources_real f ts)

-- a token whose hide set is empty
pub plain_real : (f : Names → Names) → f [] ≡ [] → (t : OutToken) → real f (plain t) ≡ plain t
plain_real f none t = ap (λ (names : Names). (let all : Marked = record { token = t; hides = names } in all)) none

pub plains_real : (f : Names → Names) → f [] ≡ [] → (ts : List OutToken) → reals f (map plain ts) ≡ map plain ts
plains_real f none [] = refl
plains_real f none (t ∷ ts) =
    ap (λ (x : Marked). x ∷ reals f (map plain ts)) (plain_real f none t)
    ∙ ap (λ (xs : List Marked). plain t ∷ xs) (plains_real f none ts)

pub string_real : (f : Names → Names) → f [] ≡ [] → (hash : OutToken) (arg : List Marked)
    → string_of hash (reals f arg) ≡ real f (string_of hash arg)
unfolding string_of
string_real f none hash arg =
    ap (λ (text : List ℕ). (let made : Marked = plain (record hash {
      kind = Rattle.tok_data.specs.declared.tokens.PpKind.TheVariants.Str;
      spelling = spelling.quoted text;
      spelt = Rattle.tok_data.specs.declared.tokens.Spelt.TheVariants.Made;
    }) in made)) (joined_real f true arg)
    ∙ sym (plain_real f none _)

-- what stands at the front of a replacement list
pub first_arg_real : (f : Names → Names) (def : MacroDef) (args : List (List Marked)) (ts : List OutToken)
    → build.first_arg def (real_args f args) ts ≡ option_map (reals f) (build.first_arg def args ts)
first_arg_real f def args [] = refl
first_arg_real f def args (t ∷ ts) = arg_of_real f def args t

abbrev operand_of : List TokId → Bool → ℕ → Marked → Operand
operand_of spelled space more t = record {
  given = false;
  tokens = t ∷ [];
  spelled = spelled;
  space = space;
  more = more;
}

pub plain_operand_real : (f : Names → Names) → f [] ≡ [] → (t : OutToken)
    → build.plain_operand t ≡ real_operand f (build.plain_operand t)
plain_operand_real f none t =
    ap (operand_of [] t.space_before 0) (sym (plain_real f none t))

pub string_operand_real : (f : Names → Names) → f [] ≡ [] → (t : OutToken) (arg : List Marked)
    → build.string_operand t (reals f arg) ≡ real_operand f (build.string_operand t arg)
string_operand_real f none t arg =
    ap (operand_of (spelling.sources (reals f arg)) t.space_before 1) (string_real f none t arg)
    ∙ ap (λ (toks : List TokId). operand_of toks t.space_before 1 (real f (string_of t arg))) (sources_real f arg)

pub operand_by_real : (f : Names → Names) → f [] ≡ [] → (g : OutToken → List Marked → Operand) (t : OutToken)
    → ((arg : List Marked) → g t (reals f arg) ≡ real_operand f (g t arg)) → (o : Option (List Marked))
    → build.operand_by g t (option_map (reals f) o) ≡ real_operand f (build.operand_by g t o)
operand_by_real f none g t same None = plain_operand_real f none t
operand_by_real f none g t same (Some arg) = same arg

pub operand_real : (f : Names → Names) → f [] ≡ [] → (def : MacroDef) (args : List (List Marked)) (t : OutToken)
    (ts : List OutToken) → operand def (real_args f args) t ts ≡ real_operand f (operand def args t ts)
unfolding operand
operand_real f none def args t ts =
    if_both (λ (x y : Operand). x ≡ real_operand f y) (is_hash t) _ _ _ _
    (λ _. ap (build.operand_by build.string_operand t) (first_arg_real f def args ts)
    ∙ operand_by_real f none build.string_operand t (string_operand_real f none t) (build.first_arg def args ts))
    (λ _. ap (build.operand_by build.argument_operand t) (arg_of_real f def args t)
    ∙ operand_by_real f none build.argument_operand t (λ arg. refl) (arg_of def args t))

-- what is built
abbrev building_of : Progress → List Marked → Building
building_of p ts = record { progress = p; tokens = ts; space = false; empty = false; first = false }

pub puts_real : (f : Names → Names) (space : Bool) (ts : List Marked) (b : Building)
    → build.puts space (reals f ts) (real_building f b) ≡ real_building f (build.puts space ts b)
puts_real f space [] b = refl
puts_real f space (t ∷ ts) b =
    ap (building_of b.progress) (sym (map-append (real f) b.tokens (spaced space t ∷ ts)))

pub with_first_real : (f : Names → Names) (t : Marked) (o : Option (List Marked × Marked))
    → with_first (real f t) (option_map (λ p. (reals f p.0, real f p.1)) o)
    ≡ option_map (λ p. (reals f p.0, real f p.1)) (with_first t o)
with_first_real f t None = refl
with_first_real f t (Some p) = refl

pub last_real : (f : Names → Names) (ts : List Marked)
    → last_of (reals f ts) ≡ option_map (λ p. (reals f p.0, real f p.1)) (last_of ts)
last_real f [] = refl
last_real f (t ∷ ts) = ap (with_first (real f t)) (last_real f ts) ∙ with_first_real f t (last_of ts)

-- what is spliced
pub first_spaced_real : (f : Names → Names) (space : Bool) (ts : List Marked)
    → reals f (token.first_spaced space ts) ≡ token.first_spaced space (reals f ts)
first_spaced_real f space [] = refl
first_spaced_real f space (t ∷ ts) = refl

pub passed_real : (f : Names → Names) (space : Bool) (ts : List Marked)
    → reals f (token.passed_on space ts) ≡ token.passed_on space (reals f ts)
passed_real f space [] = refl
passed_real f space (t ∷ ts) = refl

pub drop_real : (f : Names → Names) (n : ℕ) (ts : List Marked) → reals f (drop n ts) ≡ drop n (reals f ts)
drop_real f zero ts = refl
drop_real f (suc n) [] = refl
drop_real f (suc n) (t ∷ ts) = drop_real f n ts
