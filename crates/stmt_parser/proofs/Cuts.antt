-- How a unit is cut: an item goes on while brackets are open or nothing ends it, and ends where its declaration does.
use Rattle.std.proofs.Common.{append-nil, append_assoc, ◌≡◌, refl, ap, sym, ◌∙◌, subst, ℕ, zero, suc, ◌+◌, ◌-◌, ◌≤◌, arith, Bool, true, false, true≢false, not, ◌&&◌, ◌||◌, ◌==◌, List, [], ◌∷◌, ◌++◌, length, map, slice_index_or}
use Rattle.std.specs.Prelude.{if◌then◌else◌}
use Rattle.item_cut.specs.Items.{depth, depth_from, depth_after, somewhere, last_is, has_equals, has_body, is_item, assigns, opens_body, items_from}
use Rattle.item_cut.specs.Marks as mark
use Rattle.tok_data.specs.declared.tokens.OutToken.{OutToken}
use Rattle.tree_data.specs.Trees.{Heading}
use Rattle.tree_data.specs.Statements.{Statement, Statement_of, Core, Block_of, Expression_of, Goto_of, Continue_of, Break_of, Return_of, Do_of, No_leads, Lead_then}
use Rattle.c_parser.specs.declared.kinds.Kind.{Kind}
use Rattle.c_parser.specs.declared.kinds.Kind.TheVariants.{Identifier, TypeName, OpenParen, CloseParen, OpenBracket, CloseBracket, OpenBrace, CloseBrace, Semicolon}
use Rattle.c_parser.specs.Brackets.{opens, closes}
use Rattle.c_parser.specs.Kinds.{kind_at, is_equals}
use Rattle.c_parser.specs.Parts.{PartsLaw, IsBlind}
use Rattle.c_parser.specs.Scopes.{shade}
use Rattle.c_parser.specs.Words.{Words, kind_in}
use Rattle.stmt_parser.specs.Balance.{is_pair, Pairs, No_token, Token_then, Pair_then, ArePairs, AreBalanced, PartsAreBalanced}
use Rattle.stmt_parser.specs.Bodies.{is_block, is_braced}
use Rattle.stmt_parser.specs.Found.{Alike}
use Rattle.stmt_parser.specs.Externals.{External, Declares_under, Defines_under, under, HoldsExternal, HoldExternals, is_semicolon, is_open_brace, is_close_brace, is_close_paren, IsSpelled, AreSpelled, AreQuiet, IsQuiet, DeclarationIsQuiet, HeadsAreQuiet, UnitsAreCut}
use Rattle.stmt_parser.specs.Reading.{HoldsStatement, HoldsCore}
use Rattle.stmt_parser.proofs.Balances.{items_balanced, seen}

-- one more token on the front of an item
depth_on : (start : ℕ) → (ts : List OutToken) → (t : OutToken) → depth_from start (ts ++ t ∷ []) ≡ depth_after (depth_from start ts) t.spelling
depth_on start [] t = refl
depth_on start (u ∷ us) t = depth_on (depth_after start u.spelling) us t

last_on : (test : List ℕ → Bool) → (so_far : Bool) → (ts : List OutToken) → (t : OutToken) → last_is test so_far (ts ++ t ∷ []) ≡ test t.spelling
last_on test so_far [] t = refl
last_on test so_far (u ∷ us) t = last_on test (test u.spelling) us t

or_nil : (b : Bool) → (b || false) ≡ b
or_nil true = refl
or_nil false = refl

or_assoc : (a b c : Bool) → (a || (b || c)) ≡ (a || b || c)
or_assoc true b c = refl
or_assoc false b c = refl

some_on : (test : List OutToken → List ℕ → Bool) → (before ts : List OutToken) → (t : OutToken)
    → somewhere test before (ts ++ t ∷ []) ≡ (somewhere test before ts || test (before ++ ts) t.spelling)
some_on test before [] t = or_nil (test before t.spelling) ∙ ap (λ b. test b t.spelling) (sym (append-nil before))
some_on test before (u ∷ us) t =
    ap (λ b. test before u.spelling || b) (some_on test (before ++ u ∷ []) us t)
    ∙ or_assoc (test before u.spelling) (somewhere test (before ++ u ∷ []) us) (test (before ++ u ∷ [] ++ us) t.spelling)
    ∙ ap
    (λ b. test before u.spelling || somewhere test (before ++ u ∷ []) us || test b t.spelling)
    (append_assoc before (u ∷ []) us)

abbrev deeper : Kind → ℕ → ℕ
deeper k d = if opens k then d + 1 else (if closes k then d - 1 else d)

record Standing (front : List OutToken) (d : ℕ) (c q y : Bool) : Type 0 where
  pub depth : depth front ≡ d
  pub closed : last_is mark.is_close_paren false front ≡ c
  pub assigned : has_equals front ≡ q
  pub body : has_body front ≡ y

deeper_by : (d e : ℕ) → d ≡ e → (k : Kind) → (t : OutToken) → IsSpelled k t → depth_after d t.spelling ≡ deeper k e
unfolding depth_after
deeper_by d e p k t s = λ i. if s.opening i then p i + 1 else (if s.closing i then p i - 1 else p i)

stands_on : (front : List OutToken) → (d : ℕ) → (c q y : Bool) → Standing front d c q y → (k : Kind) → (t : OutToken) → IsSpelled k t
    → Standing (front ++ t ∷ []) (deeper k d) (is_close_paren k) (q || (is_equals k && d == 0)) (y || (is_open_brace k && d == 0 && c && not q))
stands_on front d c q y h k t s = record {
  depth = depth_on 0 front t ∙ deeper_by (depth front) d h.depth k t s;
  closed = last_on mark.is_close_paren false front t ∙ s.close_paren;
  assigned = some_on assigns [] front t ∙ (λ i. h.assigned i || (s.equals i && h.depth i == 0));
  body = some_on opens_body [] front t ∙ (λ i. h.body i || (s.open_brace i && h.depth i == 0 && h.closed i && not (h.assigned i)));
}

-- whether the front ends there
item_is : (front : List OutToken) → (k : Kind) → (t : OutToken) → IsSpelled k t → (d : ℕ) → (c q y : Bool) → Standing (front ++ t ∷ []) d c q y
    → is_item (front ++ t ∷ []) ≡ (d == 0 && (is_semicolon k || is_close_brace k && y))
item_is front k t s d c q y h = λ i.
    h.depth i == 0
    && ((last_on mark.is_semicolon false front t ∙ s.semicolon) i || (last_on mark.is_close_brace false front t ∙ s.close_brace) i && h.body i)

goes_on : (start : ℕ) → (front : List OutToken) → (t : OutToken) → (ts : List OutToken) → is_item (front ++ t ∷ []) ≡ false
    → items_from start front (t ∷ ts) ≡ items_from start (front ++ t ∷ []) ts
goes_on start front t ts h =
    ap
    (λ b.
    if b then (start, start + length (front ++ t ∷ [])) ∷ items_from (start + length (front ++ t ∷ [])) [] ts
    else items_from start (front ++ t ∷ []) ts)
    h

cut_here : (start : ℕ) → (front : List OutToken) → (t : OutToken) → (ts : List OutToken) → is_item (front ++ t ∷ []) ≡ true
    → items_from start front (t ∷ ts) ≡ (start, start + length (front ++ t ∷ [])) ∷ items_from (start + length (front ++ t ∷ [])) [] ts
cut_here start front t ts h =
    ap
    (λ b.
    if b then (start, start + length (front ++ t ∷ [])) ∷ items_from (start + length (front ++ t ∷ [])) [] ts
    else items_from start (front ++ t ∷ []) ts)
    h

longer : (front : List OutToken) → (t : OutToken) → length (front ++ t ∷ []) ≡ length front + 1
longer [] t = refl
longer (u ∷ us) t = let more : length (us ++ t ∷ []) ≡ length us + 1 = longer us t in omega (arith, more)

positive : (d : ℕ) → ((d + 1) == 0) ≡ false
positive d = grind arith

and_false : (b : Bool) → (b && false) ≡ false
and_false true = refl
and_false false = refl

and_true : (b : Bool) → (b && true) ≡ b
and_true true = refl
and_true false = refl

-- kinds
plain_depth : (k : Kind) → (opens k || closes k) ≡ false → (d : ℕ) → deeper k d ≡ d
plain_depth OpenParen h d = absurd (true≢false h)
plain_depth OpenBracket h d = absurd (true≢false h)
plain_depth OpenBrace h d = absurd (true≢false h)
plain_depth CloseParen h d = absurd (true≢false h)
plain_depth CloseBracket h d = absurd (true≢false h)
plain_depth CloseBrace h d = absurd (true≢false h)
plain_depth _ h d = refl

plain_paren : (k : Kind) → (opens k || closes k) ≡ false → is_close_paren k ≡ false
plain_paren CloseParen h = absurd (true≢false h)
plain_paren _ h = refl

plain_open : (k : Kind) → (opens k || closes k) ≡ false → is_open_brace k ≡ false
plain_open OpenBrace h = absurd (true≢false h)
plain_open _ h = refl

plain_shut : (k : Kind) → (opens k || closes k) ≡ false → is_close_brace k ≡ false
plain_shut CloseBrace h = absurd (true≢false h)
plain_shut _ h = refl

open_depth : (k : Kind) → opens k ≡ true → (d : ℕ) → deeper k d ≡ d + 1
open_depth OpenParen h d = refl
open_depth OpenBracket h d = refl
open_depth OpenBrace h d = refl
open_depth _ h d = absurd (true≢false (sym h))

open_equals : (k : Kind) → opens k ≡ true → is_equals k ≡ false
open_equals OpenParen h = refl
open_equals OpenBracket h = refl
open_equals OpenBrace h = refl
open_equals _ h = absurd (true≢false (sym h))

close_depth : (k : Kind) → closes k ≡ true → (d : ℕ) → deeper k (d + 1) ≡ d
close_depth CloseParen h d = omega arith
close_depth CloseBracket h d = omega arith
close_depth CloseBrace h d = omega arith
close_depth _ h d = absurd (true≢false (sym h))

pair_closes : (k l : Kind) → is_pair k l ≡ true → closes l ≡ true
pair_closes OpenParen CloseParen h = refl
pair_closes OpenBracket CloseBracket h = refl
pair_closes OpenBrace CloseBrace h = refl
pair_closes _ _ h = absurd (true≢false (sym h))

close_equals : (k : Kind) → closes k ≡ true → is_equals k ≡ false
close_equals CloseParen h = refl
close_equals CloseBracket h = refl
close_equals CloseBrace h = refl
close_equals _ h = absurd (true≢false (sym h))

close_open : (k : Kind) → closes k ≡ true → is_open_brace k ≡ false
close_open CloseParen h = refl
close_open CloseBracket h = refl
close_open CloseBrace h = refl
close_open _ h = absurd (true≢false (sym h))

close_semicolon : (k : Kind) → closes k ≡ true → is_semicolon k ≡ false
close_semicolon CloseParen h = refl
close_semicolon CloseBracket h = refl
close_semicolon CloseBrace h = refl
close_semicolon _ h = absurd (true≢false (sym h))

-- what stands behind some tokens that end no item
record Walked (w : Words) (start : ℕ) (front : List OutToken) (a : ℕ) (ts : List OutToken) (b d : ℕ) (closed assigned body : Bool) : Type 0 where
  pub front' : List OutToken
  pub ts' : List OutToken
  pub same : items_from start front ts ≡ items_from start front' ts'
  pub stands : Standing front' d closed assigned body
  pub spelled : AreSpelled w b ts'
  pub lengths : length front' + a ≡ length front + b
  pub left : a + length ts ≡ b + length ts'

none_walked : (w : Words) → (start : ℕ) → (front : List OutToken) → (a : ℕ) → (ts : List OutToken) → (b d : ℕ) → (c q y : Bool) → b ≡ a → Standing front d c q y
    → AreSpelled w a ts → Walked w start front a ts b d c q y
none_walked w start front a ts b d c q y e h s = record {
  front' = front;
  ts' = ts;
  same = refl;
  stands = h;
  spelled = subst (λ i. AreSpelled w i ts) (sym e) s;
  lengths = ap (λ i. length front + i) (sym e);
  left = ap (λ i. i + length ts) (sym e);
}

-- one token further
walk_on : (w : Words) → (start : ℕ) → (front : List OutToken) → (a : ℕ) → (t : OutToken) → (ts : List OutToken) → (b d : ℕ) → (c q y : Bool)
    → is_item (front ++ t ∷ []) ≡ false → Walked w start (front ++ t ∷ []) (a + 1) ts b d c q y → Walked w start front a (t ∷ ts) b d c q y
walk_on w start front a t ts b d c q y n h =
    let more : length (front ++ t ∷ []) ≡ length front + 1 = longer front t in
    let tail : length (t ∷ ts) ≡ length ts + 1 = omega arith in
    record {
      front' = h.front';
      ts' = h.ts';
      same = goes_on start front t ts n ∙ h.same;
      stands = h.stands;
      spelled = h.spelled;
      lengths = omega (arith, h.lengths, more);
      left = omega (arith, h.left, tail);
    }

walk_then : (w : Words) → (start : ℕ) → (front : List OutToken) → (a : ℕ) → (ts : List OutToken) → (m b d e : ℕ) → (c q y c' q' y' : Bool)
    → (x : Walked w start front a ts m e c' q' y') → Walked w start x.front' m x.ts' b d c q y → Walked w start front a ts b d c q y
walk_then w start front a ts m b d e c q y c' q' y' x z = record {
  front' = z.front';
  ts' = z.ts';
  same = x.same ∙ z.same;
  stands = z.stands;
  spelled = z.spelled;
  lengths = omega (arith, x.lengths, z.lengths);
  left = x.left ∙ z.left;
}

pub pairs_forth : (w : Words) → (ps : Pairs) → (a b : ℕ) → ArePairs w ps a b → a ≤ b
pairs_forth w No_token a b h = omega (arith, h)
pairs_forth w (Token_then ps) a b h = let one : a + 1 ≤ b = pairs_forth w ps (a + 1) b h.1 in omega (arith, one)
pairs_forth w (Pair_then inner ps) a b h =
    let one : a + 1 ≤ h.0 = pairs_forth w inner (a + 1) h.0 h.2 in
    let two : h.0 + 1 ≤ b = pairs_forth w ps (h.0 + 1) b h.4 in
    omega (arith, one, two)

-- at a depth the front stays as it is, but for its last token
record Deep (w : Words) (start : ℕ) (front : List OutToken) (a : ℕ) (ts : List OutToken) (b d : ℕ) (assigned body : Bool) : Type 0 where
  pub closed : Bool
  pub walked : Walked w start front a ts b d closed assigned body

still_assigned : (q : Bool) → (k : Kind) → (d : ℕ) → (q || (is_equals k && (d + 1) == 0)) ≡ q
still_assigned q k d = ap (λ b. q || (is_equals k && b)) (positive d) ∙ ap (λ b. q || b) (and_false (is_equals k)) ∙ or_nil q

still_body : (y : Bool) → (k : Kind) → (d : ℕ) → (c q : Bool) → (y || (is_open_brace k && (d + 1) == 0 && c && not q)) ≡ y
still_body y k d c q = ap (λ b. y || (is_open_brace k && b && c && not q)) (positive d) ∙ ap (λ b. y || (b && c && not q)) (and_false (is_open_brace k)) ∙ or_nil y

deep_goes : (front : List OutToken) → (k : Kind) → (t : OutToken) → IsSpelled k t → (d : ℕ) → (c q y : Bool) → Standing (front ++ t ∷ []) (d + 1) c q y
    → is_item (front ++ t ∷ []) ≡ false
deep_goes front k t s d c q y h = item_is front k t s (d + 1) c q y h ∙ ap (λ b. b && (is_semicolon k || is_close_brace k && y)) (positive d)

standing_as : (front : List OutToken) → (d e : ℕ) → (c q q' y y' : Bool) → d ≡ e → q ≡ q' → y ≡ y' → Standing front d c q y → Standing front e c q' y'
standing_as front d e c q q' y y' m n o h = record {
  depth = h.depth ∙ m;
  closed = h.closed;
  assigned = h.assigned ∙ n;
  body = h.body ∙ o;
}

tail_length : (t : OutToken) → (ts : List OutToken) → length (t ∷ ts) ≡ length ts + 1
tail_length t ts = omega arith

-- the bracket that closes
record Shut (w : Words) (m : ℕ) (front ts : List OutToken) (d : ℕ) (assigned body : Bool) : Type 0 where
  pub token : OutToken
  pub behind : List OutToken
  pub is : ts ≡ token ∷ behind
  pub spelled_so : IsSpelled (kind_in w m) token
  pub spelled : AreSpelled w (m + 1) behind
  pub stands : Standing (front ++ token ∷ []) (deeper (kind_in w m) (d + 1)) (is_close_paren (kind_in w m)) assigned body

shut_first : (w : Words) → (m : ℕ) → closes (kind_in w m) ≡ true → (front ts : List OutToken) → (d : ℕ) → (c q y : Bool) → Standing front (d + 1) c q y
    → AreSpelled w m ts → m + 1 ≤ m + length ts → Shut w m front ts d q y
shut_first w m k front [] d c q y st sp le = absurd (omega (arith, le))
shut_first w m k front (t ∷ ts) d c q y st sp le =
    let x : Kind = kind_in w m in
    record {
      token = t;
      behind = ts;
      is = refl;
      spelled_so = sp.0;
      spelled = sp.1;
      stands =
          standing_as (front ++ t ∷ []) (deeper x (d + 1)) (deeper x (d + 1)) (is_close_paren x) (q || (is_equals x && (d + 1) == 0)) q
          (y || (is_open_brace x && (d + 1) == 0 && c && not q)) y refl (still_assigned q x d) (still_body y x d c q)
          (stands_on front (d + 1) c q y st x t sp.0);
    }

deep : (w : Words) → (start : ℕ) → (ps : Pairs) → (a b : ℕ) → ArePairs w ps a b → (front ts : List OutToken) → (d : ℕ) → (c q y : Bool)
    → Standing front (d + 1) c q y → AreSpelled w a ts → b ≤ a + length ts → Deep w start front a ts b (d + 1) q y
deep w start No_token a b h front ts d c q y st sp le = record { closed = c; walked = none_walked w start front a ts b (d + 1) c q y h st sp }
deep w start (Token_then ps) a b h front [] d c q y st sp le =
    let one : a + 1 ≤ b = pairs_forth w ps (a + 1) b h.1 in
    absurd (omega (arith, one, le))
deep w start (Token_then ps) a b h front (t ∷ ts) d c q y st sp le =
    let k : Kind = kind_in w a in
    let next =
    standing_as (front ++ t ∷ []) (deeper k (d + 1)) (d + 1) (is_close_paren k) (q || (is_equals k && (d + 1) == 0)) q
    (y || (is_open_brace k && (d + 1) == 0 && c && not q)) y (plain_depth k h.0 (d + 1)) (still_assigned q k d) (still_body y k d c q)
    (stands_on front (d + 1) c q y st k t sp.0) in
    let room : b ≤ a + 1 + length ts = omega (arith, le) in
    let more = deep w start ps (a + 1) b h.1 (front ++ t ∷ []) ts d (is_close_paren k) q y next sp.1 room in
    record {
      closed = more.closed;
      walked = walk_on w start front a t ts b (d + 1) more.closed q y (deep_goes front k t sp.0 d (is_close_paren k) q y next) more.walked;
    }
deep w start (Pair_then inner ps) a b h front [] d c q y st sp le =
    let one : a + 1 ≤ h.0 = pairs_forth w inner (a + 1) h.0 h.2 in
    let two : h.0 + 1 ≤ b = pairs_forth w ps (h.0 + 1) b h.4 in
    absurd (omega (arith, one, two, le))
deep w start (Pair_then inner ps) a b h front (t ∷ ts) d c q y st sp le =
    let k : Kind = kind_in w a in
    let one : a + 1 ≤ h.0 = pairs_forth w inner (a + 1) h.0 h.2 in
    let two : h.0 + 1 ≤ b = pairs_forth w ps (h.0 + 1) b h.4 in
    let next =
    standing_as (front ++ t ∷ []) (deeper k (d + 1)) (d + 1 + 1) (is_close_paren k) (q || (is_equals k && (d + 1) == 0)) q
    (y || (is_open_brace k && (d + 1) == 0 && c && not q)) y (open_depth k h.1 (d + 1)) (still_assigned q k d) (still_body y k d c q)
    (stands_on front (d + 1) c q y st k t sp.0) in
    let room : h.0 ≤ a + 1 + length ts = omega (arith, le, two) in
    let inside = deep w start inner (a + 1) h.0 h.2 (front ++ t ∷ []) ts (d + 1) (is_close_paren k) q y next sp.1 room in
    let first = walk_on w start front a t ts h.0 (d + 1 + 1) inside.closed q y (deep_goes front k t sp.0 (d + 1) (is_close_paren k) q y next) inside.walked in
    let far : h.0 + 1 ≤ h.0 + length first.ts' = omega (arith, le, two, first.left) in
    let shuts : closes (kind_in w h.0) ≡ true = pair_closes k (kind_in w h.0) h.3 in
    let shut = shut_first w h.0 shuts first.front' first.ts' (d + 1) inside.closed q y first.stands first.spelled far in
    let next' =
    standing_as (first.front' ++ shut.token ∷ []) (deeper (kind_in w h.0) (d + 1 + 1)) (d + 1) (is_close_paren (kind_in w h.0)) q q y y
    (close_depth (kind_in w h.0) shuts (d + 1)) refl refl shut.stands in
    let here : IsSpelled (kind_in w h.0) shut.token = shut.spelled_so in
    let room' : b ≤ h.0 + 1 + length shut.behind = omega (arith, le, first.left, ap length shut.is, tail_length shut.token shut.behind) in
    let more =
    deep w start ps (h.0 + 1) b h.4 (first.front' ++ shut.token ∷ []) shut.behind d (is_close_paren (kind_in w h.0)) q y next' shut.spelled room' in
    let last =
    subst (λ us. Walked w start first.front' h.0 us b (d + 1) more.closed q y) (sym shut.is)
    (walk_on w start first.front' h.0 shut.token shut.behind b (d + 1) more.closed q y
    (deep_goes first.front' (kind_in w h.0) shut.token here d (is_close_paren (kind_in w h.0)) q y next') more.walked) in
    record { closed = more.closed; walked = walk_then w start front a (t ∷ ts) h.0 b (d + 1) (d + 1 + 1) more.closed q y inside.closed q y first last }

-- outside of brackets
no_item_here : (k : Kind) → is_semicolon k ≡ false → (0 == 0 && (is_semicolon k || is_close_brace k && false)) ≡ false
no_item_here k h = ap (λ b. b || is_close_brace k && false) h ∙ and_false (is_close_brace k)

assigned_at : (q : Bool) → (k : Kind) → (q || (is_equals k && 0 == 0)) ≡ (q || is_equals k)
assigned_at q k = ap (λ b. q || b) (and_true (is_equals k))

body_at : (k : Kind) → (c q : Bool) → (is_open_brace k && c && not q) ≡ false → (false || (is_open_brace k && 0 == 0 && c && not q)) ≡ false
body_at k c q h = ap (λ b. b && c && not q) (and_true (is_open_brace k)) ∙ h

plain_body : (k : Kind) → (opens k || closes k) ≡ false → (c q : Bool) → (is_open_brace k && c && not q) ≡ false
plain_body k h c q = ap (λ b. b && c && not q) (plain_open k h)

open_semicolon : (k : Kind) → opens k ≡ true → is_semicolon k ≡ false
open_semicolon OpenParen h = refl
open_semicolon OpenBracket h = refl
open_semicolon OpenBrace h = refl
open_semicolon _ h = absurd (true≢false (sym h))

pub quiet_forth : (w : Words) → (ps : Pairs) → (a b : ℕ) → (c q c' q' : Bool) → AreQuiet w ps a b c q c' q' → a ≤ b
quiet_forth w No_token a b c q c' q' h = omega (arith, h.0)
quiet_forth w (Token_then ps) a b c q c' q' h =
    let one : a + 1 ≤ b = quiet_forth w ps (a + 1) b false (q || is_equals (kind_in w a)) c' q' h.2 in
    omega (arith, one)
quiet_forth w (Pair_then inner ps) a b c q c' q' h =
    let one : a + 1 ≤ h.0 = pairs_forth w inner (a + 1) h.0 h.3 in
    let two : h.0 + 1 ≤ b = quiet_forth w ps (h.0 + 1) b (is_close_paren (kind_in w h.0)) q c' q' h.5 in
    omega (arith, one, two)

standing_closed : (front : List OutToken) → (d : ℕ) → (c c' q y : Bool) → c ≡ c' → Standing front d c q y → Standing front d c' q y
standing_closed front d c c' q y e h = subst (λ x. Standing front d x q y) e h

quiet : (w : Words) → (start : ℕ) → (ps : Pairs) → (a b : ℕ) → (c q c' q' : Bool) → AreQuiet w ps a b c q c' q' → (front ts : List OutToken)
    → Standing front 0 c q false → AreSpelled w a ts → b ≤ a + length ts → Walked w start front a ts b 0 c' q' false
quiet w start No_token a b c q c' q' h front ts st sp le =
    none_walked w start front a ts b 0 c' q' false h.0
    (subst (λ x. Standing front 0 x q' false) h.1 (subst (λ x. Standing front 0 c x false) h.2 st)) sp
quiet w start (Token_then ps) a b c q c' q' h front [] st sp le =
    let one : a + 1 ≤ b = quiet_forth w ps (a + 1) b false (q || is_equals (kind_in w a)) c' q' h.2 in
    absurd (omega (arith, one, le))
quiet w start (Token_then ps) a b c q c' q' h front (t ∷ ts) st sp le =
    let k : Kind = kind_in w a in
    let made =
    standing_as (front ++ t ∷ []) (deeper k 0) 0 (is_close_paren k) (q || (is_equals k && 0 == 0)) (q || is_equals k)
    (false || (is_open_brace k && 0 == 0 && c && not q)) false (plain_depth k h.0 0) (assigned_at q k) (body_at k c q (plain_body k h.0 c q))
    (stands_on front 0 c q false st k t sp.0) in
    let next = standing_closed (front ++ t ∷ []) 0 (is_close_paren k) false (q || is_equals k) false (plain_paren k h.0) made in
    let room : b ≤ a + 1 + length ts = omega (arith, le, tail_length t ts) in
    walk_on w start front a t ts b 0 c' q' false
    (item_is front k t sp.0 0 false (q || is_equals k) false next ∙ no_item_here k h.1)
    (quiet w start ps (a + 1) b false (q || is_equals k) c' q' h.2 (front ++ t ∷ []) ts next sp.1 room)
quiet w start (Pair_then inner ps) a b c q c' q' h front [] st sp le =
    let one : a + 1 ≤ h.0 = pairs_forth w inner (a + 1) h.0 h.3 in
    let two : h.0 + 1 ≤ b = quiet_forth w ps (h.0 + 1) b (is_close_paren (kind_in w h.0)) q c' q' h.5 in
    absurd (omega (arith, one, two, le))
quiet w start (Pair_then inner ps) a b c q c' q' h front (t ∷ ts) st sp le =
    let k : Kind = kind_in w a in
    let x : Kind = kind_in w h.0 in
    let one : a + 1 ≤ h.0 = pairs_forth w inner (a + 1) h.0 h.3 in
    let two : h.0 + 1 ≤ b = quiet_forth w ps (h.0 + 1) b (is_close_paren x) q c' q' h.5 in
    let same : (q || (is_equals k && 0 == 0)) ≡ q = assigned_at q k ∙ ap (λ z. q || z) (open_equals k h.1) ∙ or_nil q in
    let next =
    standing_as (front ++ t ∷ []) (deeper k 0) (0 + 1) (is_close_paren k) (q || (is_equals k && 0 == 0)) q
    (false || (is_open_brace k && 0 == 0 && c && not q)) false (open_depth k h.1 0) same (body_at k c q h.2)
    (stands_on front 0 c q false st k t sp.0) in
    let room : h.0 ≤ a + 1 + length ts = omega (arith, le, two, tail_length t ts) in
    let inside = deep w start inner (a + 1) h.0 h.3 (front ++ t ∷ []) ts 0 (is_close_paren k) q false next sp.1 room in
    let first =
    walk_on w start front a t ts h.0 (0 + 1) inside.closed q false (deep_goes front k t sp.0 0 (is_close_paren k) q false next) inside.walked in
    let far : h.0 + 1 ≤ h.0 + length first.ts' = omega (arith, le, two, first.left) in
    let shuts : closes x ≡ true = pair_closes k x h.4 in
    let shut = shut_first w h.0 shuts first.front' first.ts' 0 inside.closed q false first.stands first.spelled far in
    let next' =
    standing_as (first.front' ++ shut.token ∷ []) (deeper x (0 + 1)) 0 (is_close_paren x) q q false false (close_depth x shuts 0) refl refl shut.stands in
    let room' : b ≤ h.0 + 1 + length shut.behind = omega (arith, le, first.left, ap length shut.is, tail_length shut.token shut.behind) in
    let more =
    quiet w start ps (h.0 + 1) b (is_close_paren x) q c' q' h.5 (first.front' ++ shut.token ∷ []) shut.behind next' shut.spelled room' in
    let last =
    subst (λ us. Walked w start first.front' h.0 us b 0 c' q' false) (sym shut.is)
    (walk_on w start first.front' h.0 shut.token shut.behind b 0 c' q' false
    (item_is first.front' x shut.token shut.spelled_so 0 (is_close_paren x) q false next' ∙ no_item_here x (close_semicolon x shuts)) more) in
    walk_then w start front a (t ∷ ts) h.0 b 0 (0 + 1) c' q' false inside.closed q false first last

-- one item is cut off
record CutOff (w : Words) (a : ℕ) (ts : List OutToken) (b : ℕ) : Type 0 where
  pub behind : List OutToken
  pub same : items_from a [] ts ≡ (a, b) ∷ items_from b [] behind
  pub spelled : AreSpelled w b behind
  pub left : a + length ts ≡ b + length behind

empty_stands : Standing [] 0 false false false
empty_stands = record { depth = refl; closed = refl; assigned = refl; body = refl }

cut_off : (w : Words) → (a : ℕ) → (ts : List OutToken) → (m d : ℕ) → (c q y : Bool) → (x : Walked w a [] a ts m d c q y) → (t : OutToken) → (rest : List OutToken)
    → x.ts' ≡ t ∷ rest → AreSpelled w (m + 1) rest → is_item (x.front' ++ t ∷ []) ≡ true → CutOff w a ts (m + 1)
cut_off w a ts m d c q y x t rest e sp h =
    let size : a + length (x.front' ++ t ∷ []) ≡ m + 1 = omega (arith, longer x.front' t, x.lengths) in
    record {
      behind = rest;
      same =
          x.same
          ∙ ap (λ us. items_from a x.front' us) e
          ∙ cut_here a x.front' t rest h
          ∙ ap (λ n. (a, n) ∷ items_from n [] rest) size;
      spelled = sp;
      left = omega (arith, x.left, ap length e, tail_length t rest);
    }

-- a declaration
semicolon_item : (front : List OutToken) → (k : Kind) → k ≡ Semicolon → (t : OutToken) → IsSpelled k t → (c q : Bool) → Standing front 0 c q false
    → is_item (front ++ t ∷ []) ≡ true
semicolon_item front k e t s c q h =
    item_is front k t s (deeper k 0) (is_close_paren k) (q || (is_equals k && 0 == 0)) (false || (is_open_brace k && 0 == 0 && c && not q))
    (stands_on front 0 c q false h k t s)
    ∙ ap (λ z. deeper z 0 == 0 && (is_semicolon z || is_close_brace z && (false || (is_open_brace z && 0 == 0 && c && not q)))) e

declaration_cut : (w : Words) → (a b : ℕ) → DeclarationIsQuiet w a b → (ts : List OutToken) → AreSpelled w a ts → b ≤ a + length ts → CutOff w a ts b
declaration_cut w a b h ts sp le =
    let room : h.last ≤ a + length ts = omega (arith, le, h.ends) in
    let x = quiet w a h.quiet.pairs a h.last false false h.closed h.assigned h.quiet.are [] ts empty_stands sp room in
    subst (λ i. CutOff w a ts i) (sym h.ends) (from x x.ts' refl)
  where
    from : (x : Walked w a [] a ts h.last 0 h.closed h.assigned false) → (us : List OutToken) → x.ts' ≡ us → CutOff w a ts (h.last + 1)
    from x [] e = absurd (omega (arith, le, h.ends, x.left, ap length e))
    from x (t ∷ us) e =
        let so : AreSpelled w h.last (t ∷ us) = subst (λ vs. AreSpelled w h.last vs) e x.spelled in
        cut_off w a ts h.last 0 h.closed h.assigned false x t us e so.1
        (semicolon_item x.front' (kind_in w h.last) h.semicolon t so.0 h.closed h.assigned x.stands)

-- a function: its body is one pair of braces
record Braced (w : Words) (m b : ℕ) : Type 0 where
  pub shut : ℕ
  pub opening : kind_in w m ≡ OpenBrace
  pub inner : AreBalanced w (m + 1) shut
  pub closing : kind_in w shut ≡ CloseBrace
  pub ends : b ≡ shut + 1

core_braced : PartsLaw → PartsAreBalanced → (w : Words) → (c : Core) → (m b : ℕ) → is_braced c ≡ true → HoldsCore w c m b → Braced w m b
core_braced law parts w (Block_of o is c) m b e h =
    record { shut = c; opening = h.1; inner = items_balanced law parts is w (m + 1) c h.2; closing = h.3; ends = h.4 }
core_braced law parts w (Expression_of x n) m b e h = absurd (true≢false (sym e))
core_braced law parts w (Goto_of k n q) m b e h = absurd (true≢false (sym e))
core_braced law parts w (Continue_of k q) m b e h = absurd (true≢false (sym e))
core_braced law parts w (Break_of k q) m b e h = absurd (true≢false (sym e))
core_braced law parts w (Return_of k x q) m b e h = absurd (true≢false (sym e))
core_braced law parts w (Do_of k s v o t c q) m b e h = absurd (true≢false (sym e))

block_braced : PartsLaw → PartsAreBalanced → (w : Words) → (s : Statement) → (m b : ℕ) → is_block s ≡ true → HoldsStatement w s m b → Braced w m b
block_braced law parts w (Statement_of No_leads c) m b e h = core_braced law parts w c m b e (subst (λ i. HoldsCore w c i b) h.1 h.2)
block_braced law parts w (Statement_of (Lead_then l ls) c) m b e h = absurd (true≢false (sym e))

open_brace_is : (k : Kind) → is_open_brace k ≡ true → k ≡ OpenBrace
open_brace_is OpenBrace h = refl
open_brace_is _ h = absurd (true≢false (sym h))

close_brace_is : (k : Kind) → is_close_brace k ≡ true → k ≡ CloseBrace
close_brace_is CloseBrace h = refl
close_brace_is _ h = absurd (true≢false (sym h))

braced_seen : (v w : Words) → Alike v w → (m b : ℕ) → Braced v m b → Braced w m b
braced_seen v w alike m b x = record {
  shut = x.shut;
  opening = open_brace_is (kind_in w m) (sym (alike is_open_brace (λ n. refl) m) ∙ ap is_open_brace x.opening);
  inner = seen v w alike (m + 1) x.shut x.inner;
  closing = close_brace_is (kind_in w x.shut) (sym (alike is_close_brace (λ n. refl) x.shut) ∙ ap is_close_brace x.closing);
  ends = x.ends;
}

brace_stands : (front : List OutToken) → (k : Kind) → k ≡ OpenBrace → (t : OutToken) → IsSpelled k t → Standing front 0 true false false
    → Standing (front ++ t ∷ []) (0 + 1) false false true
brace_stands front k e t s h =
    subst
    (λ z.
    Standing (front ++ t ∷ []) (deeper z 0) (is_close_paren z) (false || (is_equals z && 0 == 0))
    (false || (is_open_brace z && 0 == 0 && true && not false)))
    e
    (stands_on front 0 true false false h k t s)

brace_item : (front : List OutToken) → (k : Kind) → k ≡ CloseBrace → (t : OutToken) → IsSpelled k t → (c : Bool) → Standing front (0 + 1) c false true
    → is_item (front ++ t ∷ []) ≡ true
brace_item front k e t s c h =
    item_is front k t s (deeper k (0 + 1)) (is_close_paren k) (false || (is_equals k && (0 + 1) == 0))
    (true || (is_open_brace k && (0 + 1) == 0 && c && not false))
    (stands_on front (0 + 1) c false true h k t s)
    ∙ ap (λ z. deeper z (0 + 1) == 0 && (is_semicolon z || is_close_brace z && (true || (is_open_brace z && (0 + 1) == 0 && c && not false)))) e

definition_cut : (w : Words) → (a p b : ℕ) → IsQuiet w a (p + 1) true false → Braced w (p + 1) b → (ts : List OutToken) → AreSpelled w a ts
    → b ≤ a + length ts → CutOff w a ts b
definition_cut w a p b h g ts sp le =
    let far : p + 1 + 1 ≤ g.shut = pairs_forth w g.inner.pairs (p + 1 + 1) g.shut g.inner.are in
    let room : p + 1 ≤ a + length ts = omega (arith, le, g.ends, far) in
    let x = quiet w a h.pairs a (p + 1) false false true false h.are [] ts empty_stands sp room in
    subst (λ i. CutOff w a ts i) (sym g.ends) (from far x x.ts' refl)
  where
    ended : (c : Bool) → (x : Walked w a [] a ts g.shut (0 + 1) c false true) → (us : List OutToken) → x.ts' ≡ us → CutOff w a ts (g.shut + 1)
    ended c x [] e = absurd (omega (arith, le, g.ends, x.left, ap length e))
    ended c x (t ∷ us) e =
        let so : AreSpelled w g.shut (t ∷ us) = subst (λ vs. AreSpelled w g.shut vs) e x.spelled in
        cut_off w a ts g.shut (0 + 1) c false true x t us e so.1 (brace_item x.front' (kind_in w g.shut) g.closing t so.0 c x.stands)

    from : p + 1 + 1 ≤ g.shut → (x : Walked w a [] a ts (p + 1) 0 true false false) → (us : List OutToken) → x.ts' ≡ us → CutOff w a ts (g.shut + 1)
    from far x [] e = absurd (omega (arith, le, g.ends, far, x.left, ap length e))
    from far x (t ∷ us) e =
        let so : AreSpelled w (p + 1) (t ∷ us) = subst (λ vs. AreSpelled w (p + 1) vs) e x.spelled in
        let next = brace_stands x.front' (kind_in w (p + 1)) g.opening t so.0 x.stands in
        let room : g.shut ≤ p + 1 + 1 + length us = omega (arith, le, g.ends, x.left, ap length e, tail_length t us) in
        let inside = deep w a g.inner.pairs (p + 1 + 1) g.shut g.inner.are (x.front' ++ t ∷ []) us 0 false false true next so.1 room in
        let first =
        walk_on w a x.front' (p + 1) t us g.shut (0 + 1) inside.closed false true
        (deep_goes x.front' (kind_in w (p + 1)) t so.0 0 false false true next) inside.walked in
        let whole =
        walk_then w a [] a ts (p + 1) g.shut (0 + 1) 0 inside.closed false true true false false x
        (subst (λ vs. Walked w a x.front' (p + 1) vs g.shut (0 + 1) inside.closed false true) (sym e) first) in
        ended inside.closed whole whole.ts' refl

-- the same tokens under other flags
shaded_if : (f : Kind → Bool) → IsBlind f → (n : ℕ) → (b : Bool) → f (if b then Identifier else TypeName n) ≡ f (TypeName n)
shaded_if f i n true = sym (i n)
shaded_if f i n false = refl

shaded_one : (f : Kind → Bool) → IsBlind f → (hidden : List Bool) → (k : Kind) → f (shade hidden k) ≡ f k
shaded_one f i hidden (TypeName n) = shaded_if f i n (slice_index_or hidden n false)
shaded_one f i hidden _ = refl

pub shaded_at : (f : Kind → Bool) → IsBlind f → (hidden : List Bool) → (ks : List Kind) → (a : ℕ) → f (kind_at (map (shade hidden) ks) a) ≡ f (kind_at ks a)
shaded_at f i hidden [] a = refl
shaded_at f i hidden (k ∷ ks) zero = shaded_one f i hidden k
shaded_at f i hidden (k ∷ ks) (suc a) = shaded_at f i hidden ks a

flags_alike : (ks : List Kind) → (h g : List Bool) → Alike (under ks h) (under ks g)
flags_alike ks h g f i a = shaded_at f i h ks a ∙ sym (shaded_at f i g ks a)

spelled_too : (k l : Kind) → ((f : Kind → Bool) → IsBlind f → f k ≡ f l) → (t : OutToken) → IsSpelled k t → IsSpelled l t
spelled_too k l same t s = record {
  opening = s.opening ∙ same opens (λ n. refl);
  closing = s.closing ∙ same closes (λ n. refl);
  open_brace = s.open_brace ∙ same is_open_brace (λ n. refl);
  close_brace = s.close_brace ∙ same is_close_brace (λ n. refl);
  close_paren = s.close_paren ∙ same is_close_paren (λ n. refl);
  semicolon = s.semicolon ∙ same is_semicolon (λ n. refl);
  equals = s.equals ∙ same is_equals (λ n. refl);
}

respelled : (ks : List Kind) → (h g : List Bool) → (a : ℕ) → (ts : List OutToken) → AreSpelled (under ks h) a ts → AreSpelled (under ks g) a ts
respelled ks h g a [] sp = tt
respelled ks h g a (t ∷ ts) sp =
    (spelled_too (kind_in (under ks h) a) (kind_in (under ks g) a) (λ f i. flags_alike ks h g f i a) t sp.0, respelled ks h g (a + 1) ts sp.1)

defined_quiet : HeadsAreQuiet → (ks : List Kind) → (hidden inner : List Bool) → (h : Heading) → (s : Statement) → (a b : ℕ)
    → (g : HoldsExternal ks (Defines_under hidden h inner s) a b) → IsQuiet (under ks hidden) a (g.0 + 1) true false
defined_quiet heads ks hidden inner h s a b g =
    subst (λ c. IsQuiet (under ks hidden) a (g.0 + 1) c false) (shaded_at is_close_paren (λ n. refl) hidden ks g.0 ∙ ap is_close_paren g.3)
    (heads.definition (under ks hidden) h a g.0 g.2 g.1)

defined_braced : PartsLaw → PartsAreBalanced → (ks : List Kind) → (hidden inner : List Bool) → (h : Heading) → (s : Statement) → (a b : ℕ)
    → (g : HoldsExternal ks (Defines_under hidden h inner s) a b) → Braced (under ks hidden) (g.0 + 1) b
defined_braced law parts ks hidden inner h s a b g =
    braced_seen (under ks inner) (under ks hidden) (flags_alike ks inner hidden) (g.0 + 1) b
    (block_braced law parts (under ks inner) s (g.0 + 1) b g.4 g.5)

external_forth : PartsLaw → PartsAreBalanced → HeadsAreQuiet → (ks : List Kind) → (x : External) → (a b : ℕ) → HoldsExternal ks x a b → a ≤ b
external_forth law parts heads ks (Declares_under hidden d) a b h =
    let q = heads.declaration (under ks hidden) d a b h in
    let one : a ≤ q.last = quiet_forth (under ks hidden) q.quiet.pairs a q.last false false q.closed q.assigned q.quiet.are in
    omega (arith, one, q.ends)
external_forth law parts heads ks (Defines_under hidden h inner s) a b g =
    let q = defined_quiet heads ks hidden inner h s a b g in
    let r = defined_braced law parts ks hidden inner h s a b g in
    let one : a ≤ g.0 + 1 = quiet_forth (under ks hidden) q.pairs a (g.0 + 1) false false true false q.are in
    let two : g.0 + 1 + 1 ≤ r.shut = pairs_forth (under ks hidden) r.inner.pairs (g.0 + 1 + 1) r.shut r.inner.are in
    omega (arith, one, two, r.ends)

externals_forth : PartsLaw → PartsAreBalanced → HeadsAreQuiet → (ks : List Kind) → (xs : List External) → (a b : ℕ) → (is : List (ℕ × ℕ))
    → HoldExternals ks xs a b is → a ≤ b
externals_forth law parts heads ks [] a b is h = omega (arith, h.0)
externals_forth law parts heads ks (x ∷ xs) a b is h =
    let one : a ≤ h.0 = external_forth law parts heads ks x a h.0 h.2 in
    let two : h.0 ≤ b = externals_forth law parts heads ks xs h.0 b h.1 h.3 in
    omega (arith, one, two)

-- the flags under which an external declaration is read
abbrev flags_of : External → List Bool
flags_of (Declares_under hidden d) = hidden
flags_of (Defines_under hidden h inner s) = hidden

external_cut : PartsLaw → PartsAreBalanced → HeadsAreQuiet → (ks : List Kind) → (x : External) → (a b : ℕ) → HoldsExternal ks x a b → (ts : List OutToken)
    → AreSpelled (under ks (flags_of x)) a ts → b ≤ a + length ts → CutOff (under ks (flags_of x)) a ts b
external_cut law parts heads ks (Declares_under hidden d) a b h ts sp le =
    declaration_cut (under ks hidden) a b (heads.declaration (under ks hidden) d a b h) ts sp le
external_cut law parts heads ks (Defines_under hidden h inner s) a b g ts sp le =
    definition_cut (under ks hidden) a g.0 b (defined_quiet heads ks hidden inner h s a b g) (defined_braced law parts ks hidden inner h s a b g) ts sp le

externals_cut : PartsLaw → PartsAreBalanced → HeadsAreQuiet → (ks : List Kind) → (hidden : List Bool) → (xs : List External) → (a b : ℕ)
    → (is : List (ℕ × ℕ)) → (ts : List OutToken) → HoldExternals ks xs a b is → AreSpelled (under ks hidden) a ts → a + length ts ≡ b
    → items_from a [] ts ≡ is
externals_cut law parts heads ks hidden [] a b is [] h sp e = sym h.1
externals_cut law parts heads ks hidden [] a b is (t ∷ ts) h sp e = absurd (omega (arith, e, h.0, tail_length t ts))
externals_cut law parts heads ks hidden (x ∷ xs) a b is ts h sp e =
    let far : h.0 ≤ b = externals_forth law parts heads ks xs h.0 b h.1 h.3 in
    let cut =
    external_cut law parts heads ks x a h.0 h.2 ts (respelled ks hidden (flags_of x) a ts sp) (omega (arith, far, e)) in
    let rest =
    externals_cut law parts heads ks (flags_of x) xs h.0 b h.1 cut.behind h.3 cut.spelled (sym cut.left ∙ e) in
    cut.same ∙ ap (λ us. (a, h.0) ∷ us) rest ∙ sym h.4

pub units_cut : PartsLaw → PartsAreBalanced → HeadsAreQuiet → UnitsAreCut
units_cut law parts heads ks hidden tokens sp xs is h =
    externals_cut law parts heads ks hidden xs 0 (length tokens) is tokens h sp (omega arith)
