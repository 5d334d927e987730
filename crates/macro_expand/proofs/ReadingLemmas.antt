-- A call that is read token by token is the call of the whole list.
use Rattle.std.proofs.Common.{◌≡◌, ℕ, suc, ◌+◌, ◌-◌, ◌<◌, ◌==◌, Bool, true, false, ◌&&◌, List, [], ◌∷◌, ◌++◌, length}
use Rattle.std.proofs.Common.{refl, ap, sym, ◌∙◌, arith, eqb, codes, bytes_eq, if◌then◌else◌, Option, append_assoc}
use Rattle.std.proofs.lemmas.Bool.{both_ways, and_parts, and_from, and_left, and_right, eqb-true, eqb-false, eq-eqb, ne_eqb}
use Rattle.std.proofs.lemmas.List.{length-append}
use Rattle.std.proofs.lemmas.Slice.Eq.{bytes_eq-Decides}
use Rattle.std.specs.Prelude.{Some, None, option_map}
use Rattle.tok_data.specs.declared.tokens.OutToken.{OutToken}
use Rattle.macro_expand.specs.declared.types.Marked.{Marked}
use Rattle.macro_table.specs.declared.definition.MacroDef.{MacroDef}
use Rattle.macro_expand.specs.declared.arguments.Reading.{Reading}
use Rattle.macro_expand.specs.declared.arguments.Called.{Called}
use Rattle.macro_expand.specs.declared.arguments.Called.TheVariants.{Absent, Unclosed, Closed}
use Rattle.macro_expand.specs.Ties.Reading.{Turn, Goes, Ends}
use Rattle.macro_expand.specs.Tokens.{is_mark}
use Rattle.macro_expand.specs.Arguments as call
use Rattle.macro_expand.specs.Arguments.{balanced, divides}
use Rattle.macro_expand.specs.Ties.Reading as read
use Rattle.macro_expand.specs.Ties.Reading.{parts, turn}
use Rattle.macro_expand.proofs.Cases.{if_cases}

pub reads_on : (def : MacroDef) (at : ℕ) (r more : Reading) (t : Marked) (ts all : List Marked) → all ≡ t ∷ ts → Goes
    more ≡ turn def at r t → read.reads def (at + 1) more ts ≡ read.reads def at r all
reads_on def at r more t ts all is goes =
    ap (read.turned (λ r'. read.reads def (at + 1) r' ts)) goes ∙ ap (read.reads def at r) (sym is)

pub ends_there : (def : MacroDef) (at : ℕ) (r : Reading) (called : Called) (t : Marked) (ts all : List Marked)
    → all ≡ t ∷ ts → turn def at r t ≡ Ends called → called ≡ read.reads def at r all
ends_there def at r called t ts all is ends =
    sym (ap (read.reads def at r) is ∙ ap (read.turned (λ r'. read.reads def (at + 1) r' ts)) ends)

-- a token is one mark
pub mark_is : (text : List ℕ) (t : OutToken) → is_mark text t ≡ true → t.spelling ≡ text
unfolding is_mark
mark_is text t e = (bytes_eq-Decides t.spelling text).0 (and_parts _ _ e).1

pub no_mark : (text other : List ℕ) (t : OutToken) → bytes_eq text other ≡ false → is_mark text t ≡ true
    → is_mark other t ≡ false
unfolding is_mark
no_mark text other t differ e = and_right _ _ (ap (λ (s : List ℕ). bytes_eq s other) (mark_is text t e) ∙ differ)

-- so many parentheses are open behind a list that stands in one
abbrev pub IsOpen : ℕ → List Marked → Type 0
IsOpen d ts = d + call.count (codes ")") ts ≡ 1 + call.count (codes "(") ts

abbrev one_if : Bool → ℕ
one_if b = if b then 1 else 0

count_snoc : (text : List ℕ) (ts : List Marked) (t : Marked)
    → call.count text (ts ++ t ∷ []) ≡ call.count text ts + one_if (is_mark text t.token)
count_snoc text [] t = let n : ℕ = one_if (is_mark text t.token) in omega arith
count_snoc text (u ∷ us) t =
    let more = count_snoc text us t in
    let first : ℕ = one_if (is_mark text u.token) in
    let last : ℕ = one_if (is_mark text t.token) in
    omega (arith, more)

pub open_snoc : (d d' : ℕ) (ts : List Marked) (t : Marked) (opens closes : Bool) → IsOpen d ts
    → is_mark (codes "(") t.token ≡ opens → is_mark (codes ")") t.token ≡ closes
    → d' + one_if closes ≡ d + one_if opens → IsOpen d' (ts ++ t ∷ [])
open_snoc d d' ts t opens closes stands opens_is closes_is deeper =
    let left : call.count (codes "(") (ts ++ t ∷ []) ≡ call.count (codes "(") ts + one_if opens =
    count_snoc (codes "(") ts t ∙ ap (λ (b : Bool). call.count (codes "(") ts + one_if b) opens_is in
    let right : call.count (codes ")") (ts ++ t ∷ []) ≡ call.count (codes ")") ts + one_if closes =
    count_snoc (codes ")") ts t ∙ ap (λ (b : Bool). call.count (codes ")") ts + one_if b) closes_is in
    omega (arith, left, right, stands, deeper)

-- nothing but the first parenthesis is open where those of the list are closed
same_bool : (x y : Bool) → (x ≡ true → y ≡ true) → (x ≡ false → y ≡ false) → x ≡ y
same_bool true y holds fails = sym (holds refl)
same_bool false y holds fails = sym (fails refl)

same_test : (a b d : ℕ) → d + b ≡ 1 + a → eqb a b ≡ eqb d 1
same_test a b d stands =
    same_bool (eqb a b) (eqb d 1)
    (λ e. let same = eqb-true a b e in eq-eqb d 1 (omega (arith, stands, same)))
    (λ e. let differ = eqb-false a b e in ne_eqb d 1 (λ one. differ (omega (arith, stands, one))))

pub balanced_is : (d : ℕ) (ts : List Marked) → IsOpen d ts → balanced ts ≡ eqb d 1
unfolding balanced
balanced_is d ts stands = same_test (call.count (codes "(") ts) (call.count (codes ")") ts) d stands

-- what a call is, of which some was read
abbrev ends_by : MacroDef → ℕ → Reading → Option (List Marked × Marked) → Called
ends_by def at r None = Unclosed
ends_by def at r (Some p) =
    Closed (r.done ++ call.arguments def (length r.done) r.current p.0) p.1.hides (at + length p.0 + 1)

-- one more token of those behind
abbrev with_token : Marked → Option (List Marked × Marked) → Option (List Marked × Marked)
with_token t o = option_map (λ p. (t ∷ p.0, p.1)) o

-- a token is taken into the argument
taken_ends : (def : MacroDef) (at depth : ℕ) (r : Reading) (t : Marked) (o : Option (List Marked × Marked))
    → (is_mark (codes ",") t.token && balanced r.current && divides def (length r.done)) ≡ false
    → ends_by def (at + 1) (record (read.taken t r) { depth = depth }) o ≡ ends_by def at r (with_token t o)
taken_ends def at depth r t None plainly = refl
taken_ends def at depth r t (Some p) plainly =
    ap (λ (n : ℕ). Closed (r.done ++ call.arguments def (length r.done) (r.current ++ t ∷ []) p.0) p.1.hides n)
    (let width : (at + 1) + length p.0 + 1 ≡ at + suc (length p.0) + 1 = omega arith in width)
    ∙ ap (λ (b : Bool). Closed (r.done ++ (if b then r.current ∷ call.arguments def (length r.done + 1) [] p.0
    else call.arguments def (length r.done) (r.current ++ t ∷ []) p.0)) p.1.hides (at + suc (length p.0) + 1))
    (sym plainly)

-- an argument ends
parted_ends : (def : MacroDef) (at : ℕ) (r : Reading) (t : Marked) (o : Option (List Marked × Marked))
    → (is_mark (codes ",") t.token && balanced r.current && divides def (length r.done)) ≡ true
    → ends_by def (at + 1) (read.parted r) o ≡ ends_by def at r (with_token t o)
parted_ends def at r t None parted = refl
parted_ends def at r t (Some p) parted =
    let more : List (List Marked) = call.arguments def (length r.done + 1) [] p.0 in
    ap (λ (n : ℕ). Closed ((r.done ++ r.current ∷ []) ++ call.arguments def n [] p.0) p.1.hides ((at + 1) + length p.0 + 1))
    (length-append r.done (r.current ∷ []))
    ∙ ap (λ (n : ℕ). Closed ((r.done ++ r.current ∷ []) ++ more) p.1.hides n)
    (let width : (at + 1) + length p.0 + 1 ≡ at + suc (length p.0) + 1 = omega arith in width)
    ∙ ap (λ (args : List (List Marked)). Closed args p.1.hides (at + suc (length p.0) + 1))
    (append_assoc r.done (r.current ∷ []) more)
    ∙ ap (λ (b : Bool). Closed (r.done ++ (if b then r.current ∷ more
    else call.arguments def (length r.done) (r.current ++ t ∷ []) p.0)) p.1.hides (at + suc (length p.0) + 1))
    (sym parted)

-- a comma that divides, where the reading counts
divides_is : (def : MacroDef) (r : Reading) (t : OutToken) → IsOpen r.depth r.current
    → (is_mark (codes ",") t && balanced r.current && divides def (length r.done)) ≡ parts def r t
unfolding parts divides
divides_is def r t stands =
    ap (λ (b : Bool). is_mark (codes ",") t && b && divides def (length r.done)) (balanced_is r.depth r.current stands)

-- no call ends at a token
goes_ends : (def : MacroDef) (at : ℕ) (r : Reading) (front : List Marked) (t : Marked) (ts : List Marked) (c : Called)
    → (is_mark (codes ")") t.token && balanced front) ≡ false
    → c ≡ ends_by def at r (with_token t (call.inside (front ++ t ∷ []) ts))
    → c ≡ ends_by def at r (call.inside front (t ∷ ts))
goes_ends def at r front t ts c stands is =
    is ∙ ap (λ (b : Bool). ends_by def at r (if b then Some ([], t)
    else with_token t (call.inside (front ++ t ∷ []) ts))) (sym stands)

-- a call ends at a token
closes_ends : (def : MacroDef) (at : ℕ) (r : Reading) (front : List Marked) (t : Marked) (ts : List Marked)
    → (is_mark (codes ")") t.token && balanced front) ≡ true
    → Closed (r.done ++ r.current ∷ []) t.hides (at + 1) ≡ ends_by def at r (call.inside front (t ∷ ts))
closes_ends def at r front t ts closed =
    ap (λ (n : ℕ). Closed (r.done ++ r.current ∷ []) t.hides n) (let width : at + 1 ≡ at + 0 + 1 = omega arith in width)
    ∙ ap (λ (b : Bool). ends_by def at r (if b then Some ([], t)
    else with_token t (call.inside (front ++ t ∷ []) ts))) (sym closed)

-- both lists have as many parentheses open as the reading counts: what was read of the call, and of the argument
abbrev AreOpen : ℕ → List Marked → List Marked → Type 0
AreOpen d front current = (0 < d) × IsOpen d front × IsOpen d current

taken_open : (d d' : ℕ) (front current : List Marked) (t : Marked) (opens closes : Bool) → AreOpen d front current
    → is_mark (codes "(") t.token ≡ opens → is_mark (codes ")") t.token ≡ closes
    → d' + one_if closes ≡ d + one_if opens → 0 < d' → AreOpen d' (front ++ t ∷ []) (current ++ t ∷ [])
taken_open d d' front current t opens closes stands opens_is closes_is deeper some = (
  some,
  open_snoc d d' front t opens closes stands.1 opens_is closes_is deeper,
  open_snoc d d' current t opens closes stands.2 opens_is closes_is deeper,
)

pub reads_ends : (def : MacroDef) (ts : List Marked) (at : ℕ) (r : Reading) (front : List Marked)
    → AreOpen r.depth front r.current → read.reads def at r ts ≡ ends_by def at r (call.inside front ts)
unfolding turn
reads_ends def [] at r front stands =
    ap (λ (b : Bool). if b then Absent else Unclosed) (ne_eqb r.depth 0 (λ none. omega (arith, none, stands.0)))
reads_ends def (t ∷ ts) at r front stands =
    let more : Reading → Called = λ r'. read.reads def (at + 1) r' ts in
    let whole : Called = ends_by def at r (call.inside front (t ∷ ts)) in
    let P : Turn → Type 0 = λ x. read.turned more x ≡ whole in
    let some : eqb r.depth 0 ≡ false = ne_eqb r.depth 0 (λ none. omega (arith, none, stands.0)) in
    if_cases P (is_mark (codes "(") t.token) _ _
    (λ opens.
    let not_closed : is_mark (codes ")") t.token ≡ false = no_mark (codes "(") (codes ")") t.token refl opens in
    let no_comma : is_mark (codes ",") t.token ≡ false = no_mark (codes "(") (codes ",") t.token refl opens in
    ap (λ (b : Bool). more (if b then record r { depth = 1 } else record (read.taken t r) { depth = r.depth + 1 })) some
    ∙ goes_ends def at r front t ts _ (and_left (is_mark (codes ")") t.token) (balanced front) not_closed)
    (reads_ends def ts (at + 1) (record (read.taken t r) { depth = r.depth + 1 }) (front ++ t ∷ [])
    (taken_open r.depth (r.depth + 1) front r.current t true false stands opens not_closed (omega arith) (omega arith))
    ∙ taken_ends def at (r.depth + 1) r t (call.inside (front ++ t ∷ []) ts) (and_left (is_mark (codes ",") t.token && balanced r.current) (divides def (length r.done))
    (and_left (is_mark (codes ",") t.token) (balanced r.current) no_comma))))
    (λ not_opened. if_cases P (r.depth == 0) _ _ (λ none. absurd (both_ways _ some none))
    (λ _. if_cases P (is_mark (codes ")") t.token) _ _
    (λ closes. if_cases P (r.depth == 1) _ _
    (λ one. closes_ends def at r front t ts (and_from _ _ closes (balanced_is r.depth front stands.1 ∙ one)))
    (λ deeper.
    let no_comma : is_mark (codes ",") t.token ≡ false = no_mark (codes ")") (codes ",") t.token refl closes in
    let differ = eqb-false r.depth 1 deeper in
    goes_ends def at r front t ts _ (and_right _ _ (balanced_is r.depth front stands.1 ∙ deeper))
    (reads_ends def ts (at + 1) (record (read.taken t r) { depth = r.depth - 1 }) (front ++ t ∷ [])
    (taken_open r.depth (r.depth - 1) front r.current t false true stands not_opened closes
    (omega (arith, stands.0)) (omega (arith, stands.0, differ)))
    ∙ taken_ends def at (r.depth - 1) r t (call.inside (front ++ t ∷ []) ts) (and_left (is_mark (codes ",") t.token && balanced r.current) (divides def (length r.done))
    (and_left (is_mark (codes ",") t.token) (balanced r.current) no_comma)))))
    (λ not_closed. if_cases P (parts def r t.token) _ _
    (λ divides_here.
    let parted : (is_mark (codes ",") t.token && balanced r.current && divides def (length r.done)) ≡ true =
    divides_is def r t.token stands.2 ∙ divides_here in
    let both : (is_mark (codes ",") t.token && balanced r.current) ≡ true =
    (and_parts (is_mark (codes ",") t.token && balanced r.current) (divides def (length r.done)) parted).0 in
    let alone : balanced r.current ≡ true = (and_parts (is_mark (codes ",") t.token) (balanced r.current) both).1 in
    let one : r.depth ≡ 1 = eqb-true r.depth 1 (sym (balanced_is r.depth r.current stands.2) ∙ alone) in
    goes_ends def at r front t ts _ (and_left (is_mark (codes ")") t.token) (balanced front) not_closed)
    (reads_ends def ts (at + 1) (read.parted r) (front ++ t ∷ [])
    (stands.0, open_snoc r.depth r.depth front t false false stands.1 not_opened not_closed refl, omega (arith, one))
    ∙ parted_ends def at r t (call.inside (front ++ t ∷ []) ts) parted))
    (λ plainly.
    goes_ends def at r front t ts _ (and_left (is_mark (codes ")") t.token) (balanced front) not_closed)
    (reads_ends def ts (at + 1) (read.taken t r) (front ++ t ∷ [])
    (taken_open r.depth r.depth front r.current t false false stands not_opened not_closed refl stands.0)
    ∙ taken_ends def at r.depth r t (call.inside (front ++ t ∷ []) ts) (divides_is def r t.token stands.2 ∙ plainly))))))

-- where a name's list begins
begins_by : (more : Reading → Called) (b : Bool) (x y : Turn) (x' y' : Called) → read.turned more x ≡ x'
    → read.turned more y ≡ y' → read.turned more (if b then x else y) ≡ (if b then x' else y')
begins_by more true x y x' y' holds fails = holds
begins_by more false x y x' y' holds fails = fails

closed_is : (def : MacroDef) (o : Option (List Marked × Marked))
    → ends_by def (0 + 1) (record read.nothing_read { depth = 1 }) o ≡ call.closed def o
closed_is def None = refl
closed_is def (Some p) =
    ap (Closed (call.arguments def 0 [] p.0) p.1.hides)
    (let width : (0 + 1) + length p.0 + 1 ≡ length p.0 + 2 = omega arith in width)

pub reading_is : (def : MacroDef) (ts : List Marked) → read.reads def 0 read.nothing_read ts ≡ call.called def ts
unfolding turn
reading_is def [] = refl
reading_is def (t ∷ ts) =
    begins_by (λ r'. read.reads def (0 + 1) r' ts) (is_mark (codes "(") t.token) _ _ _ _
    (reads_ends def ts (0 + 1) (record read.nothing_read { depth = 1 }) [] (omega arith, refl, refl)
    ∙ closed_is def (call.inside [] ts))
    refl
