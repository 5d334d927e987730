-- Heads are quiet, and the parts of statements are balanced.
use Rattle.std.proofs.Common.{◌≡◌, refl, ap, sym, ◌∙◌, subst, ℕ, zero, suc, ◌+◌, ◌-◌, ◌≤◌, arith, Bool, true, false, true≢false, not, ◌&&◌, ◌||◌, if◌then◌else◌, List, [], ◌∷◌, Option, None, Some, is_none}
use Rattle.tree_data.specs.Trees.{Declaring, Initial, Specifying, Word_of, Typedef_of, Tag_of, Atomic_of, Aligned_as_of, Aligned_of, Members_of, Enumerators_of, Specifyings, No_specifiers, Specifier_then, Assertion, Assertion_of, Heading, Declares_of, Asserts_of}
use Rattle.c_parser.specs.declared.kinds.Kind.{Kind}
use Rattle.c_parser.specs.declared.kinds.Kind.TheVariants.{Identifier, TypeName, OpenParen, CloseParen, OpenBracket, CloseBracket, OpenBrace, CloseBrace, Semicolon, Equals, Comma, Assert}
use Rattle.c_parser.specs.Brackets.{opens, closes}
use Rattle.c_parser.specs.Enumerations.{declared_in, in_force, settle_on, settle}
use Rattle.c_parser.specs.Heads.{HoldsValue, HoldsOne, HoldOthers, HoldAll, Closes, is_alone, Leading, leading_of, freely, HoldsHead}
use Rattle.c_parser.specs.Heads as head
use Rattle.c_parser.specs.Kinds.{kind_at, is_equals}
use Rattle.c_parser.specs.Parts.{IsBlind, HoldsDeclaration, is_declaration}
use Rattle.c_parser.specs.Grammar.{AreSome}
use Rattle.c_parser.specs.Reading.{HoldSpecifying, HoldSpecifyings, HoldsAssertion}
use Rattle.c_parser.specs.Words.{Words, shown, shown_from, kind_in, declared_as}
use Rattle.stmt_parser.specs.Balance.{is_pair, Pairs, No_token, Token_then, Pair_then, ArePairs, AreBalanced, PartsAreBalanced}
use Rattle.stmt_parser.specs.Externals.{is_semicolon, is_open_brace, is_close_paren, AreQuiet, IsQuiet, DeclarationIsQuiet, HeadsAreQuiet}
use Rattle.stmt_parser.proofs.Balances as statements
use Rattle.stmt_parser.proofs.Cuts.{shaded_at, quiet_forth, pairs_forth}
use Rattle.stmt_parser.proofs.PartBalances.{plain, opener, AreMatched, AreCalm, Calm, join, nothing, token, mark, pair, plain_bracket, opener_opens, tree_calm, initial_calm, specifyings_calm, naming_calm, declarator_calm, members_matched, tag_calm, texts_calm, comma_calm, enumerator_calm, enumerators_calm}

-- balanced
plain_semicolon : (s : Bool) → (k : Kind) → plain s k ≡ true → is_semicolon k ≡ false
plain_semicolon s Semicolon h = absurd (true≢false (sym h))
plain_semicolon s _ h = refl

strict_equals : (k : Kind) → plain true k ≡ true → is_equals k ≡ false
strict_equals Equals h = absurd (true≢false (sym h))
strict_equals _ h = refl

strict_brace : (k : Kind) → opener true k ≡ true → is_open_brace k ≡ false
strict_brace OpenBrace h = absurd (true≢false (sym h))
strict_brace _ h = refl

matched_pairs : (w : Words) → (ps : Pairs) → (a b : ℕ) → AreMatched (shown w) ps a b → ArePairs w ps a b
matched_pairs w No_token a b h = h
matched_pairs w (Token_then ps) a b h = (h.0, matched_pairs w ps (a + 1) b h.1)
matched_pairs w (Pair_then inner ps) a b h =
    (h.0, h.1, matched_pairs w inner (a + 1) h.0 h.2, h.3, matched_pairs w ps (h.0 + 1) b h.4)

-- whether the token in front is a `)`
abbrev behind_paren : Words → ℕ → Bool
behind_paren w a = is_close_paren (kind_in w (a - 1))

pairs_of : (s : Bool) → (w : Words) → (ps : Pairs) → (a b : ℕ) → AreCalm s (shown w) ps a b → ArePairs w ps a b
pairs_of s w No_token a b h = h
pairs_of s w (Token_then ps) a b h = (plain_bracket s (kind_in w a) h.0, pairs_of s w ps (a + 1) b h.1)
pairs_of s w (Pair_then inner ps) a b h =
    (h.0, opener_opens (s && behind_paren w a) (kind_in w a) h.1, matched_pairs w inner (a + 1) h.0 h.2, h.3, pairs_of s w ps (h.0 + 1) b h.4)

balanced_of : (s : Bool) → (w : Words) → (a b : ℕ) → Calm s (shown w) a b → AreBalanced w a b
balanced_of s w a b x = record { pairs = x.pairs; are = pairs_of s w x.pairs a b x.are }

-- that a `)` was the last token is so
abbrev Follows : Words → ℕ → Bool → Type 0
Follows w a c = c ≡ true → behind_paren w a ≡ true

not_behind : (w : Words) → (a : ℕ) → Follows w a false
not_behind w a e = absurd (true≢false (sym e))

behind_pair : (w : Words) → (a : ℕ) → Follows w (a + 1) (is_close_paren (kind_in w a))
behind_pair w a e = ap (λ i. is_close_paren (kind_in w i)) (before a) ∙ e
  where
    before : (a : ℕ) → (a + 1) - 1 ≡ a
    before a = omega arith

follows_on : (w : Words) → (a b : ℕ) → (c : Bool) → b ≡ a → Follows w a c → Follows w b c
follows_on w a b c e told = subst (λ i. Follows w i c) (sym e) told

-- quiet, from a state to a state
record Quieted (w : Words) (a b : ℕ) (c q q' : Bool) : Type 0 where
  pub end : Bool
  pub pairs : Pairs
  pub are : AreQuiet w pairs a b c q end q'
  pub told : Follows w b end

or_true : (b : Bool) → (b || true) ≡ true
or_true true = refl
or_true false = refl

or_false : (b : Bool) → (b || false) ≡ b
or_false true = refl
or_false false = refl

and_nothing : (b : Bool) → (b && false) ≡ false
and_nothing true = refl
and_nothing false = refl

-- where an `=` stood
quiet_behind : (w : Words) → (ps : Pairs) → (a b : ℕ) → (c : Bool) → Follows w a c → AreCalm false (shown w) ps a b → Quieted w a b c true true
quiet_behind w No_token a b c told h = record { end = c; pairs = No_token; are = (h, refl, refl); told = follows_on w a b c h told }
quiet_behind w (Token_then ps) a b c told h =
    let more = quiet_behind w ps (a + 1) b false (not_behind w (a + 1)) h.1 in
    record {
      end = more.end;
      pairs = Token_then more.pairs;
      told = more.told;
      are = (plain_bracket false (kind_in w a) h.0, plain_semicolon false (kind_in w a) h.0, more.are);
    }
quiet_behind w (Pair_then inner ps) a b c told h =
    let more = quiet_behind w ps (h.0 + 1) b (is_close_paren (kind_in w h.0)) (behind_pair w h.0) h.4 in
    record {
      end = more.end;
      pairs = Pair_then inner more.pairs;
      told = more.told;
      are = (
        h.0,
        opener_opens false (kind_in w a) h.1,
        and_nothing (is_open_brace (kind_in w a) && c),
        matched_pairs w inner (a + 1) h.0 h.2,
        h.3,
        more.are,
      );
    }

-- where none did
no_body : (p c q : Bool) → (k : Kind) → (c ≡ true → p ≡ true) → opener p k ≡ true → (is_open_brace k && c && not q) ≡ false
no_body p false q k told h = ap (λ x. x && not q) (and_nothing (is_open_brace k))
no_body true true q k told h = ap (λ x. x && true && not q) (strict_brace k h)
no_body false true q k told h = absurd (true≢false (sym (told refl)))

quiet_still : (w : Words) → (ps : Pairs) → (a b : ℕ) → (c q : Bool) → Follows w a c → AreCalm true (shown w) ps a b → Quieted w a b c q q
quiet_still w No_token a b c q told h = record { end = c; pairs = No_token; are = (h, refl, refl); told = follows_on w a b c h told }
quiet_still w (Token_then ps) a b c q told h =
    let same : (q || is_equals (kind_in w a)) ≡ q = ap (λ x. q || x) (strict_equals (kind_in w a) h.0) ∙ or_false q in
    let more = quiet_still w ps (a + 1) b false q (not_behind w (a + 1)) h.1 in
    record {
      end = more.end;
      pairs = Token_then more.pairs;
      told = more.told;
      are = (
        plain_bracket true (kind_in w a) h.0,
        plain_semicolon true (kind_in w a) h.0,
        subst (λ x. AreQuiet w more.pairs (a + 1) b false x more.end q) (sym same) more.are,
      );
    }
quiet_still w (Pair_then inner ps) a b c q told h =
    let more = quiet_still w ps (h.0 + 1) b (is_close_paren (kind_in w h.0)) q (behind_pair w h.0) h.4 in
    record {
      end = more.end;
      pairs = Pair_then inner more.pairs;
      told = more.told;
      are = (
        h.0,
        opener_opens (behind_paren w a) (kind_in w a) h.1,
        no_body (behind_paren w a) c q (kind_in w a) told h.1,
        matched_pairs w inner (a + 1) h.0 h.2,
        h.3,
        more.are,
      );
    }

quiet_then : (w : Words) → (ps : Pairs) → (a m b : ℕ) → (c q c1 q1 q2 : Bool) → AreQuiet w ps a m c q c1 q1 → Quieted w m b c1 q1 q2 → Quieted w a b c q q2
quiet_then w No_token a m b c q c1 q1 q2 h x =
    subst (λ i. Quieted w i b c q q2) h.0
    (subst (λ y. Quieted w m b y q q2) (sym h.1) (subst (λ y. Quieted w m b c1 y q2) (sym h.2) x))
quiet_then w (Token_then ps) a m b c q c1 q1 q2 h x =
    let more = quiet_then w ps (a + 1) m b false (q || is_equals (kind_in w a)) c1 q1 q2 h.2 x in
    record { end = more.end; pairs = Token_then more.pairs; are = (h.0, h.1, more.are); told = more.told }
quiet_then w (Pair_then inner ps) a m b c q c1 q1 q2 h x =
    let more = quiet_then w ps (h.0 + 1) m b (is_close_paren (kind_in w h.0)) q c1 q1 q2 h.5 x in
    record { end = more.end; pairs = Pair_then inner more.pairs; are = (h.0, h.1, h.2, h.3, h.4, more.are); told = more.told }

then_quiet : (w : Words) → (a m b : ℕ) → (c q q1 q2 : Bool) → (x : Quieted w a m c q q1) → Quieted w m b x.end q1 q2 → Quieted w a b c q q2
then_quiet w a m b c q q1 q2 x y = quiet_then w x.pairs a m b c q x.end q1 q2 x.are y

still : (w : Words) → (a b : ℕ) → (c q : Bool) → Follows w a c → Calm true (shown w) a b → Quieted w a b c q q
still w a b c q told x = quiet_still w x.pairs a b c q told x.are

-- a scope behind a declarator shows the same marks
as_shown : (f : Kind → Bool) → IsBlind f → (v w : Words) → v.kinds ≡ w.kinds → (a : ℕ) → f (kind_in v a) ≡ f (kind_in w a)
as_shown f i v w e a =
    shaded_at f i v.hidden v.kinds a ∙ ap (λ ks. f (kind_at ks a)) e ∙ sym (shaded_at f i w.hidden w.kinds a)

-- and so does what an enumerator of the part hides
forced_blind : (f : Kind → Bool) → IsBlind f → (ks : List Kind) → (from at : ℕ) → (k : Kind) → f (in_force ks from at k) ≡ f k
forced_blind f i ks from at (TypeName n) = either (declared_in ks n from at)
  where
    either : (b : Bool) → f (if b then Identifier else TypeName n) ≡ f (TypeName n)
    either true = sym (i n)
    either false = refl
forced_blind f i ks from at _ = refl

settled_blind : (f : Kind → Bool) → IsBlind f → (ks : List Kind) → (from start : ℕ) → (us : List Kind) → (at : ℕ)
    → f (kind_at (settle_on ks from start us) at) ≡ f (kind_at us at)
settled_blind f i ks from start [] at = refl
settled_blind f i ks from start (u ∷ us) zero = forced_blind f i ks from start u
settled_blind f i ks from start (u ∷ us) (suc at) = settled_blind f i ks from (start + 1) us at

from_blind : (f : Kind → Bool) → IsBlind f → (ks : List Kind) → (from at : ℕ) → f (kind_at (settle ks from) at) ≡ f (kind_at ks at)
unfolding settle
from_blind f i ks from at = settled_blind f i ks from 0 ks at

-- tokens that differ from those of a scope in typedef names alone
abbrev Shows : List Kind → Words → Type 0
Shows ks w = (f : Kind → Bool) → IsBlind f → (a : ℕ) → f (kind_at ks a) ≡ f (kind_in w a)

shows_from : (v w : Words) → v.kinds ≡ w.kinds → (o : ℕ) → Shows (shown_from v o) w
shows_from v w e o f i a = from_blind f i (shown v) o a ∙ as_shown f i v w e a

matched_under : (ks : List Kind) → (w : Words) → Shows ks w → (ps : Pairs) → (a b : ℕ) → AreMatched ks ps a b → AreMatched (shown w) ps a b
matched_under ks w e No_token a b h = h
matched_under ks w e (Token_then ps) a b h =
    (sym (e (λ k. opens k || closes k) (λ n. refl) a) ∙ h.0, matched_under ks w e ps (a + 1) b h.1)
matched_under ks w e (Pair_then inner ps) a b h = (
  h.0,
  sym (e opens (λ n. refl) a) ∙ h.1,
  matched_under ks w e inner (a + 1) h.0 h.2,
  sym (e (λ k. is_pair k (kind_in w h.0)) (λ n. refl) a)
      ∙ sym (e (is_pair (kind_at ks a)) (statements.pair_blind (kind_at ks a)) h.0)
      ∙ h.3,
  matched_under ks w e ps (h.0 + 1) b h.4,
)

calm_under : (s : Bool) → (ks : List Kind) → (w : Words) → Shows ks w → (ps : Pairs) → (a b : ℕ) → AreCalm s ks ps a b → AreCalm s (shown w) ps a b
calm_under s ks w e No_token a b h = h
calm_under s ks w e (Token_then ps) a b h = (sym (e (plain s) (λ n. refl) a) ∙ h.0, calm_under s ks w e ps (a + 1) b h.1)
calm_under s ks w e (Pair_then inner ps) a b h = (
  h.0,
  ap (λ p. opener (s && p) (kind_in w a)) (sym (e is_close_paren (λ n. refl) (a - 1)))
      ∙ sym (e (opener (s && is_close_paren (kind_at ks (a - 1)))) (λ n. refl) a)
      ∙ h.1,
  matched_under ks w e inner (a + 1) h.0 h.2,
  sym (e (λ k. is_pair k (kind_in w h.0)) (λ n. refl) a)
      ∙ sym (e (is_pair (kind_at ks a)) (statements.pair_blind (kind_at ks a)) h.0)
      ∙ h.3,
  calm_under s ks w e ps (h.0 + 1) b h.4,
)

seen_calm : (s : Bool) → (ks : List Kind) → (w : Words) → Shows ks w → (a b : ℕ) → Calm s ks a b → Calm s (shown w) a b
seen_calm s ks w e a b x = record { pairs = x.pairs; are = calm_under s ks w e x.pairs a b x.are }

as_kinds : (w : Words) → (y : Bool) → (k : Kind) → (declared_as w y k).kinds ≡ w.kinds
as_kinds w y (TypeName n) = refl
as_kinds w y _ = refl

named_kinds : (w : Words) → (y : Bool) → (o : Option ℕ) → (head.named w y o).kinds ≡ w.kinds
named_kinds w y None = refl
named_kinds w y (Some n) = as_kinds w y (kind_at w.kinds n)

abbrev Piece : Type 0
Piece = Declaring × Option Initial

comma_is : (w : Words) → (a : ℕ) → kind_at w.kinds a ≡ Comma → (opens (kind_in w a) || closes (kind_in w a)) ≡ false
comma_is w a e = shaded_at (λ k. opens k || closes k) (λ n. refl) w.hidden w.kinds a ∙ ap (λ k. opens k || closes k) e

comma_semicolon : (w : Words) → (a : ℕ) → kind_at w.kinds a ≡ Comma → is_semicolon (kind_in w a) ≡ false
comma_semicolon w a e = shaded_at is_semicolon (λ n. refl) w.hidden w.kinds a ∙ ap is_semicolon e

comma_equals : (w : Words) → (a : ℕ) → kind_at w.kinds a ≡ Comma → is_equals (kind_in w a) ≡ false
comma_equals w a e = shaded_at is_equals (λ n. refl) w.hidden w.kinds a ∙ ap is_equals e

comma_quiet : (w : Words) → (a : ℕ) → (c q : Bool) → kind_at w.kinds a ≡ Comma → Quieted w a (a + 1) c q q
comma_quiet w a c q e = record {
  end = false;
  pairs = Token_then No_token;
  are = (comma_is w a e, comma_semicolon w a e, (refl, refl, ap (λ x. q || x) (comma_equals w a e) ∙ or_false q));
  told = not_behind w (a + 1);
}

equals_is : (k : Kind) → is_equals k ≡ true → k ≡ Equals
equals_is Equals h = refl
equals_is _ h = absurd (true≢false (sym h))

equals_quiet : (w : Words) → (a : ℕ) → (c q : Bool) → kind_in w a ≡ Equals → Quieted w a (a + 1) c q true
equals_quiet w a c q e = record {
  end = false;
  pairs = Token_then No_token;
  are = (
    ap (λ k. opens k || closes k) e,
    ap is_semicolon e,
    (refl, refl, ap (λ k. q || is_equals k) e ∙ or_true q),
  );
  told = not_behind w (a + 1);
}

-- quiet, with an `=` or with none
record Settled (w : Words) (a b : ℕ) (c q : Bool) : Type 0 where
  pub assigned : Bool
  pub quiet : Quieted w a b c q assigned

then_settled : (w : Words) → (a m b : ℕ) → (c q q1 : Bool) → (x : Quieted w a m c q q1) → Settled w m b x.end q1 → Settled w a b c q
then_settled w a m b c q q1 x y = record { assigned = y.assigned; quiet = then_quiet w a m b c q q1 y.assigned x y.quiet }

one_settled : (w v : Words) → v.kinds ≡ w.kinds → (o : ℕ) → (s : Leading) → (p : Piece) → (a b : ℕ) → HoldsOne v o s p.0 p.1 a b → (c q : Bool) → Follows w a c
    → Settled w a b c q
one_settled w v e o s p a b h c q told =
    let front = still w a h.0 c q told (seen_calm true (shown_from v o) w (shows_from v w e o) a h.0 (declarator_calm p.0 (shown_from v o) (not s.typed) a h.0 h.1)) in
    then_settled w a h.0 b c q q front (by p.1 h.2 front.end front.told)
  where
    behind : Words
    behind = head.past v s p.0

    kinds : behind.kinds ≡ w.kinds
    kinds = named_kinds v s.typedef _ ∙ e

    by : (x : Option Initial) → HoldsValue (shown_from behind o) x h.0 b → (d : Bool) → Follows w h.0 d → Settled w h.0 b d q
    by None g d tells = record { assigned = q; quiet = still w h.0 b d q tells (nothing true (shown w) h.0 b g) }
    by (Some i) g d tells =
        let sign : kind_in w h.0 ≡ Equals = equals_is (kind_in w h.0) (sym (shows_from behind w kinds o is_equals (λ n. refl) h.0) ∙ g.0) in
        let first = equals_quiet w h.0 d q sign in
        let calm = seen_calm false (shown_from behind o) w (shows_from behind w kinds o) (h.0 + 1) b (initial_calm i (shown_from behind o) (h.0 + 1) b g.1) in
        then_settled w h.0 (h.0 + 1) b d q true first
        (record { assigned = true; quiet = quiet_behind w calm.pairs (h.0 + 1) b first.end first.told calm.are })

others_settled : (w v : Words) → v.kinds ≡ w.kinds → (o : ℕ) → (s : Leading) → (ps : List Piece) → (a b : ℕ) → HoldOthers v o s ps a b → (c q : Bool)
    → Follows w a c → Settled w a b c q
others_settled w v e o s [] a b h c q told = record { assigned = q; quiet = still w a b c q told (nothing true (shown w) a b h) }
others_settled w v e o s (p ∷ ps) a b h c q told =
    let sign = comma_quiet w a c q (ap (λ ks. kind_at ks a) (sym e) ∙ h.1) in
    let one = one_settled w v e o s p (a + 1) h.0 h.2 sign.end q sign.told in
    let rest =
    others_settled w (head.past v s p.0) (named_kinds v s.typedef _ ∙ e) o s ps h.0 b h.3 one.quiet.end one.assigned one.quiet.told in
    then_settled w a (a + 1) b c q q sign (then_settled w (a + 1) h.0 b sign.end q one.assigned one.quiet rest)

all_settled : (w v : Words) → v.kinds ≡ w.kinds → (o : ℕ) → (s : Leading) → (ps : List Piece) → (a b : ℕ) → HoldAll v o s ps a b → (c q : Bool) → Follows w a c
    → Settled w a b c q
all_settled w v e o s [] a b h c q told = record { assigned = q; quiet = still w a b c q told (nothing true (shown w) a b h) }
all_settled w v e o s (p ∷ ps) a b h c q told =
    let one = one_settled w v e o s p a h.0 h.1 c q told in
    let rest = others_settled w (head.past v s p.0) (named_kinds v s.typedef _ ∙ e) o (freely s) ps h.0 b h.2 one.quiet.end one.assigned one.quiet.told in
    then_settled w a h.0 b c q one.assigned one.quiet rest

semicolon_is : (k : Kind) → is_semicolon k ≡ true → k ≡ Semicolon
semicolon_is Semicolon h = refl
semicolon_is _ h = absurd (true≢false (sym h))

semicolon_seen : (w : Words) → (a : ℕ) → kind_at w.kinds a ≡ Semicolon → kind_in w a ≡ Semicolon
semicolon_seen w a e = semicolon_is (kind_in w a) (shaded_at is_semicolon (λ n. refl) w.hidden w.kinds a ∙ ap is_semicolon e)

quieted_is : (w : Words) → (a b : ℕ) → (q : Bool) → (x : Quieted w a b false false q) → IsQuiet w a b x.end q
quieted_is w a b q x = record { pairs = x.pairs; are = x.are }

assertion_calm : (ks : List Kind) → (x : Assertion) → (a b : ℕ) → (m : ℕ) → b ≡ m + 1 → HoldsAssertion ks x a b → Calm true ks a m
assertion_calm ks (Assertion_of k o t c ns p e) a b m q h =
    let last : m ≡ p + 1 = omega (arith, q, h.10, h.12) in
    join true ks a o m (mark true ks a o Assert h.1 refl h.2)
    (pair true ks o p m OpenParen CloseParen h.3 refl
    (join false ks (o + 1) c p (tree_calm t ks (o + 1) c h.5)
    (join false ks c (c + 1) p (mark false ks c (c + 1) Comma h.6 refl refl) (texts_calm ks ns (c + 1) p h.8))) h.9 refl last)

-- under what is shown in front of a head
from_itself : (s : Bool) → (w : Words) → (o a b : ℕ) → Calm s (shown_from w o) a b → Calm s (shown w) a b
from_itself s w o a b x = seen_calm s (shown_from w o) w (shows_from w w refl o) a b x

specifiers_seen : (w : Words) → (ss : Specifyings) → (a b : ℕ) → HoldSpecifyings (shown_from w a) false ss a b → Calm true (shown w) a b
specifiers_seen w ss a b h = from_itself true w a a b (specifyings_calm ss (shown_from w a) false a b h)

declaration_quiet : (w : Words) → (d : Heading) → (a b : ℕ) → HoldsDeclaration w d a b → DeclarationIsQuiet w a b
declaration_quiet w (Declares_of ss ds false) a b g =
    let h = g.1 in
    let front = still w a h.0 false false (not_behind w a) (specifiers_seen w ss a h.0 h.3) in
    let rest = all_settled w w refl a (leading_of (shown w) ss) ds h.0 h.1 h.4 front.end false front.told in
    let whole = then_settled w a h.0 h.1 false false false front rest in
    record {
      last = h.1;
      closed = whole.quiet.end;
      assigned = whole.assigned;
      quiet = quieted_is w a h.1 whole.assigned whole.quiet;
      semicolon = semicolon_seen w h.1 h.5;
      ends = h.6;
    }
declaration_quiet w (Declares_of ss ds true) a b g = absurd (true≢false (sym g.0))
declaration_quiet w (Asserts_of (Assertion_of k o t c ns p e)) a b g =
    let h = g.1 in
    let quiet = still w a e false false (not_behind w a) (from_itself true w a a e (assertion_calm (shown_from w a) (Assertion_of k o t c ns p e) a b e h.12 h)) in
    record {
      last = e;
      closed = quiet.end;
      assigned = false;
      quiet = quieted_is w a e false quiet;
      semicolon = semicolon_is (kind_in w e) (sym (shows_from w w refl a is_semicolon (λ n. refl) e) ∙ ap is_semicolon h.11);
      ends = h.12;
    }

-- what the last token was
abbrev Some_token : Pairs → Type 0
Some_token No_token = ⊥
Some_token (Token_then ps) = Unit {0}
Some_token (Pair_then inner ps) = Unit {0}

far : (w : Words) → (ps : Pairs) → (a p : ℕ) → (c q c' q' : Bool) → AreQuiet w ps a (p + 1) c q c' q' → Some_token ps → a ≤ p
far w No_token a p c q c' q' h s = absurd s
far w (Token_then ps) a p c q c' q' h s =
    let one : a + 1 ≤ p + 1 = quiet_forth w ps (a + 1) (p + 1) false (q || is_equals (kind_in w a)) c' q' h.2 in
    omega (arith, one)
far w (Pair_then inner ps) a p c q c' q' h s =
    let one : a + 1 ≤ h.0 = pairs_forth w inner (a + 1) h.0 h.3 in
    let two : h.0 + 1 ≤ p + 1 = quiet_forth w ps (h.0 + 1) (p + 1) (is_close_paren (kind_in w h.0)) q c' q' h.5 in
    omega (arith, one, two)

closed_by : (w : Words) → (ps : Pairs) → (a p : ℕ) → (c q c' q' : Bool) → a ≤ p → AreQuiet w ps a (p + 1) c q c' q' → c' ≡ is_close_paren (kind_in w p)
closed_by w No_token a p c q c' q' le h = absurd (omega (arith, le, h.0))
closed_by w (Token_then No_token) a p c q c' q' le h =
    let same : a ≡ p = omega (arith, h.2.0) in
    sym h.2.1 ∙ sym (plain_paren_not (kind_in w a) h.0) ∙ ap (λ i. is_close_paren (kind_in w i)) same
  where
    plain_paren_not : (k : Kind) → (opens k || closes k) ≡ false → is_close_paren k ≡ false
    plain_paren_not CloseParen e = absurd (true≢false e)
    plain_paren_not _ e = refl
closed_by w (Token_then (Token_then ps)) a p c q c' q' le h =
    closed_by w (Token_then ps) (a + 1) p false (q || is_equals (kind_in w a)) c' q' (far w (Token_then ps) (a + 1) p false (q || is_equals (kind_in w a)) c' q' h.2 tt) h.2
closed_by w (Token_then (Pair_then i ps)) a p c q c' q' le h =
    closed_by w (Pair_then i ps) (a + 1) p false (q || is_equals (kind_in w a)) c' q' (far w (Pair_then i ps) (a + 1) p false (q || is_equals (kind_in w a)) c' q' h.2 tt) h.2
closed_by w (Pair_then inner No_token) a p c q c' q' le h =
    let same : h.0 ≡ p = omega (arith, h.5.0) in
    sym h.5.1 ∙ ap (λ i. is_close_paren (kind_in w i)) same
closed_by w (Pair_then inner (Token_then ps)) a p c q c' q' le h =
    closed_by w (Token_then ps) (h.0 + 1) p (is_close_paren (kind_in w h.0)) q c' q' (far w (Token_then ps) (h.0 + 1) p (is_close_paren (kind_in w h.0)) q c' q' h.5 tt) h.5
closed_by w (Pair_then inner (Pair_then i ps)) a p c q c' q' le h =
    closed_by w (Pair_then i ps) (h.0 + 1) p (is_close_paren (kind_in w h.0)) q c' q' (far w (Pair_then i ps) (h.0 + 1) p (is_close_paren (kind_in w h.0)) q c' q' h.5 tt) h.5

-- a head has a token in front of its last
matched_forth : (ks : List Kind) → (ps : Pairs) → (a b : ℕ) → AreMatched ks ps a b → a ≤ b
matched_forth ks No_token a b h = omega (arith, h)
matched_forth ks (Token_then ps) a b h = let one : a + 1 ≤ b = matched_forth ks ps (a + 1) b h.1 in omega (arith, one)
matched_forth ks (Pair_then inner ps) a b h =
    let one : a + 1 ≤ h.0 = matched_forth ks inner (a + 1) h.0 h.2 in
    let two : h.0 + 1 ≤ b = matched_forth ks ps (h.0 + 1) b h.4 in
    omega (arith, one, two)

calm_forth : (s : Bool) → (ks : List Kind) → (ps : Pairs) → (a b : ℕ) → AreCalm s ks ps a b → a ≤ b
calm_forth s ks No_token a b h = omega (arith, h)
calm_forth s ks (Token_then ps) a b h = let one : a + 1 ≤ b = calm_forth s ks ps (a + 1) b h.1 in omega (arith, one)
calm_forth s ks (Pair_then inner ps) a b h =
    let one : a + 1 ≤ h.0 = matched_forth ks inner (a + 1) h.0 h.2 in
    let two : h.0 + 1 ≤ b = calm_forth s ks ps (h.0 + 1) b h.4 in
    omega (arith, one, two)

specifying_strict : (ks : List Kind) → (y : Bool) → (x : Specifying) → (a b : ℕ) → HoldSpecifying ks y x a b → a + 1 ≤ b
specifying_strict ks y (Word_of n) a b h = omega (arith, h.2)
specifying_strict ks y (Typedef_of n) a b h = omega (arith, h.3)
specifying_strict ks y (Tag_of k n) a b h = omega (arith, h.2, h.4)
specifying_strict ks y (Atomic_of k o t c) a b h =
    let inner = naming_calm t ks false (o + 1) c h.4 in
    let one : o + 1 ≤ c = calm_forth true ks inner.pairs (o + 1) c inner.are in
    omega (arith, one, h.2, h.6)
specifying_strict ks y (Aligned_as_of k o t c) a b h =
    let inner = naming_calm t ks false (o + 1) c h.4 in
    let one : o + 1 ≤ c = calm_forth true ks inner.pairs (o + 1) c inner.are in
    omega (arith, one, h.2, h.6)
specifying_strict ks y (Aligned_of k o t c) a b h =
    let inner = tree_calm t ks (o + 1) c h.5 in
    let one : o + 1 ≤ c = calm_forth false ks inner.pairs (o + 1) c inner.are in
    omega (arith, one, h.2, h.7)
specifying_strict ks y (Members_of k g o ms c) a b h =
    let front = tag_calm ks g (a + 1) o h.2 in
    let inner = members_matched ms ks (o + 1) c h.5 in
    let one : a + 1 ≤ o = calm_forth true ks front.pairs (a + 1) o front.are in
    let two : o + 1 ≤ c = matched_forth ks inner.pairs (o + 1) c inner.are in
    omega (arith, one, two, h.7)
specifying_strict ks y (Enumerators_of k g o e es t c) a b h =
    let front = tag_calm ks g (a + 1) o h.4 in
    let first = enumerator_calm e ks (o + 1) h.0 h.6 in
    let more = enumerators_calm es ks h.0 h.1 h.7 in
    let last = comma_calm ks t h.1 c h.8 in
    let one : a + 1 ≤ o = calm_forth true ks front.pairs (a + 1) o front.are in
    let two : o + 1 ≤ h.0 = calm_forth false ks first.pairs (o + 1) h.0 first.are in
    let three : h.0 ≤ h.1 = calm_forth false ks more.pairs h.0 h.1 more.are in
    let four : h.1 ≤ c = calm_forth false ks last.pairs h.1 c last.are in
    omega (arith, one, two, three, four, h.10)

some_strict : (ks : List Kind) → (ss : Specifyings) → (a m : ℕ) → AreSome ss → HoldSpecifyings ks false ss a m → a + 1 ≤ m
some_strict ks No_specifiers a m s h = absurd s
some_strict ks (Specifier_then x xs) a m s h =
    let one : a + 1 ≤ h.0 = specifying_strict ks false x a h.0 h.1 in
    let rest = specifyings_calm xs ks _ h.0 m h.2 in
    let two : h.0 ≤ m = calm_forth true ks rest.pairs h.0 m rest.are in
    omega (arith, one, two)

-- a function's head
alone_still : (w : Words) → (o : ℕ) → (s : Leading) → (ds : List Piece) → (a b : ℕ) → is_alone ds ≡ true → HoldAll w o s ds a b → Calm true (shown w) a b
alone_still w o s [] a b e h = absurd (true≢false (sym e))
alone_still w o s (p ∷ []) a b e h = by p.1 e h.1.2
  where
    by : (x : Option Initial) → is_none x ≡ true → HoldsValue (shown_from (head.past w s p.0) o) x h.1.0 h.0 → Calm true (shown w) a b
    by None e g =
        let one : h.0 ≡ h.1.0 = g in
        let two : b ≡ h.1.0 = h.2 ∙ one in
        subst (λ i. Calm true (shown w) a i) (sym two) (from_itself true w o a h.1.0 (declarator_calm p.0 (shown_from w o) (not s.typed) a h.1.0 h.1.1))
    by (Some i) e g = absurd (true≢false (sym e))
alone_still w o s (p ∷ q ∷ ps) a b e h = absurd (true≢false (sym e))

definition_quiet : (w : Words) → (h : Heading) → (a p : ℕ) → HoldsHead w h a (p + 2) → is_declaration h ≡ false
    → IsQuiet w a (p + 1) (is_close_paren (kind_in w p)) false
definition_quiet w (Declares_of ss ds false) a p h e = absurd (true≢false e)
definition_quiet w (Declares_of ss ds true) a p h e =
    let last : p + 1 ≡ h.1 = omega (arith, h.6) in
    let calm =
    join true (shown w) a h.0 h.1 (specifiers_seen w ss a h.0 h.3)
    (alone_still w a (leading_of (shown w) ss) ds h.0 h.1 h.5.1 h.4) in
    let one : a + 1 ≤ h.0 = some_strict (shown_from w a) ss a h.0 h.2 h.3 in
    let behind = alone_still w a (leading_of (shown w) ss) ds h.0 h.1 h.5.1 h.4 in
    let two : h.0 ≤ h.1 = calm_forth true (shown w) behind.pairs h.0 h.1 behind.are in
    from (omega (arith, one, two, last)) (subst (λ i. Calm true (shown w) a i) (sym last) calm)
  where
    from : a ≤ p → Calm true (shown w) a (p + 1) → IsQuiet w a (p + 1) (is_close_paren (kind_in w p)) false
    from start x =
        let y = still w a (p + 1) false false (not_behind w a) x in
        record {
          pairs = y.pairs;
          are = subst (λ c. AreQuiet w y.pairs a (p + 1) false false c false) (closed_by w y.pairs a p false false y.end false start y.are) y.are;
        }
definition_quiet w (Asserts_of x) a p h e = absurd (true≢false e)

pub heads_quiet : HeadsAreQuiet
heads_quiet = record { declaration = declaration_quiet; definition = definition_quiet }

-- expressions, and declarations with their `;`
quiet_pairs : (w : Words) → (ps : Pairs) → (a b : ℕ) → (c q c' q' : Bool) → AreQuiet w ps a b c q c' q' → ArePairs w ps a b
quiet_pairs w No_token a b c q c' q' h = h.0
quiet_pairs w (Token_then ps) a b c q c' q' h = (h.0, quiet_pairs w ps (a + 1) b false (q || is_equals (kind_in w a)) c' q' h.2)
quiet_pairs w (Pair_then inner ps) a b c q c' q' h =
    (h.0, h.1, h.3, h.4, quiet_pairs w ps (h.0 + 1) b (is_close_paren (kind_in w h.0)) q c' q' h.5)

declaration_balanced : (w : Words) → (d : Heading) → (a b : ℕ) → HoldsDeclaration w d a b → AreBalanced w a b
declaration_balanced w d a b h =
    let x = declaration_quiet w d a b h in
    statements.join w a x.last b
    (record { pairs = x.quiet.pairs; are = quiet_pairs w x.quiet.pairs a x.last false false x.closed x.assigned x.quiet.are })
    (record { pairs = Token_then No_token; are = (ap (λ k. opens k || closes k) x.semicolon, x.ends) })

pub parts_balanced : PartsAreBalanced
parts_balanced = record {
  expression = λ w n t a b h. balanced_of false w a b (from_itself false w a a b (tree_calm t (shown_from w a) a b h.1));
  declaration = declaration_balanced;
}
