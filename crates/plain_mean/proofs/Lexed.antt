-- Texts that are lexed when they are first wanted.
use Rattle.std.proofs.Common.{◌≡◌, ℕ, Bool, true, false, cond, ◌||◌, List, [], ◌∷◌, Option, Some, None, unwrap_or, bytes_eq, refl, sym, ap, ◌∙◌, subst}
use Rattle.std.specs.BTreeMap as tree
use Rattle.std.specs.BTreeMap.{BTreeMap, is_at}
use Rattle.std.specs.Cmp.Lexicographic.{slice_cmp}
use Rattle.std.specs.Ordering.{nat_cmp}
use Rattle.std.proofs.lemmas.Slice.Eq.{bytes_eq-Decides}
use Rattle.std.specs.List.{list_any}
use Rattle.std.specs.Option.{option_or}
use Rattle.doc_texts.specs.Prior.{Prior, is_changed, text_before}
use Rattle.doc_texts.specs.Texts.{Texts}
use Rattle.plain_mean.specs.Given.{text_in}
use Rattle.plain_mean.specs.Lexing.{AreLexed, HasLexed, IsLexed, WereLexed, lexing_at}
use Rattle.plain_mean.specs.declared.lexings.KeptLexings.{KeptLexings}
use Rattle.plain_mean.specs.declared.lexings.LexedText.{LexedText}
use Rattle.plain_mean.proofs.Comparing.{unchanged}
use Rattle.plain_mean.proofs.Keys.{updated}

some_is : (x y : LexedText) → Some x ≡ Some y → x ≡ y
some_is x y same = ap (λ o. unwrap_or o x) same

kept_by : (t : Texts) (path : List ℕ) (new l : LexedText) (old : Option LexedText) (q : List ℕ) (b : Bool) → bytes_eq q path ≡ b → IsLexed (text_in t path) new →
    (old ≡ Some l → IsLexed (text_in t q) l) → cond b (Some new) old ≡ Some l → IsLexed (text_in t q) l
kept_by t path new l old q true same is before found =
    subst (λ x. IsLexed (text_in t q) x) (some_is new l found) (subst (λ p. IsLexed (text_in t p) new) (sym ((bytes_eq-Decides q path).0 same)) is)
kept_by t path new l old q false other is before found = before found

pub lexed_more : (t : Texts) (m n : BTreeMap (List ℕ) LexedText) (path key : List ℕ) (new : LexedText) → AreLexed t m → IsLexed (text_in t path) new → key ≡ path →
    ((q : List ℕ) → tree.get (slice_cmp nat_cmp) n q ≡ cond (is_at (slice_cmp nat_cmp key) q) (Some new) (tree.get (slice_cmp nat_cmp) m q)) → AreLexed t n
lexed_more t m n path key new are is same put q l found =
    kept_by t path new l (tree.get (slice_cmp nat_cmp) m q) q (bytes_eq q path) refl is (are q l)
    (ap (λ p. cond (bytes_eq q p) (Some new) (tree.get (slice_cmp nat_cmp) m q)) (sym same) ∙ sym (updated m n key (Some new) put q) ∙ found)

-- ---- what is kept of before

pub none_given : (e : Bool) (moved old : Option LexedText) → None ≡ moved → old ≡ cond e (option_or moved old) old
none_given true moved old none = ap (λ o. option_or o old) none
none_given false moved old none = refl

found_before : (e : Bool) (old : Option LexedText) (l : LexedText) → cond e None old ≡ Some l → old ≡ Some l
found_before true old l found = cc found
found_before false old l found = found

module _ (prior : Prior) (now : Texts) where
  pub were_none : (kept : KeptLexings) → ((q : List ℕ) → lexing_at kept q ≡ None) → WereLexed prior now kept
  unfolding lexing_at
  were_none kept none q l found = cc (none q, found)

  pub were_less : (old new : KeptLexings) (path : List ℕ) → ((q : List ℕ) → lexing_at new q ≡ cond (bytes_eq q path) None (lexing_at old q)) →
      WereLexed prior now old → WereLexed prior now new
  unfolding lexing_at
  were_less old new path less were q l found = were q l (found_before (bytes_eq q path) (lexing_at old q) l (sym (less q) ∙ found))

  more_by : (q path : List ℕ) (e : Bool) (moved there : Option LexedText) (l : LexedText) → bytes_eq q path ≡ e →
      ((m : LexedText) → moved ≡ Some m → IsLexed (unwrap_or (text_before prior now path) []) m) → ((m : LexedText) → there ≡ Some m → IsLexed (unwrap_or (text_before prior now q) []) m) →
      cond e (option_or moved there) there ≡ Some l → IsLexed (unwrap_or (text_before prior now q) []) l
  more_by q path true None there l same from to found = to l found
  more_by q path true (Some m) there l same from to found =
      subst (λ x. IsLexed (unwrap_or (text_before prior now x) []) l) (sym ((bytes_eq-Decides q path).0 same)) (from l found)
  more_by q path false moved there l same from to found = to l found

  pub were_more : (from old new : KeptLexings) (path : List ℕ) →
      ((q : List ℕ) → lexing_at new q ≡ cond (bytes_eq q path) (option_or (lexing_at from path) (lexing_at old q)) (lexing_at old q)) →
      WereLexed prior now from → WereLexed prior now old → WereLexed prior now new
  unfolding lexing_at
  were_more from old new path more given were q l found =
      more_by q path (bytes_eq q path) (lexing_at from path) (lexing_at old q) l refl (given path) (were q) (sym (more q) ∙ found)

  -- what is kept of texts that didn't change is what lexing gives of these now
  still : (q : List ℕ) (b : Bool) (old : Option LexedText) (l : LexedText) → is_changed prior now q ≡ b → ((m : LexedText) → old ≡ Some m → IsLexed (unwrap_or (text_before prior now q) []) m) →
      cond b None old ≡ Some l → IsLexed (text_in now q) l
  still q true old l is were found = cc found
  still q false old l is were found = subst (λ text. IsLexed (unwrap_or text []) l) (unchanged prior now q is) (were l found)

  pub still_lexed : (old new : KeptLexings) (changed : List (List ℕ)) → ((q : List ℕ) → list_any (bytes_eq q) changed ≡ is_changed prior now q) →
      ((q : List ℕ) → lexing_at new q ≡ cond (list_any (bytes_eq q) changed) None (lexing_at old q)) → WereLexed prior now old → HasLexed now new
  unfolding lexing_at
  still_lexed old new changed are less were q l found =
      still q (list_any (bytes_eq q) changed) (lexing_at old q) l (sym (are q)) (were q) (sym (less q) ∙ found)

-- one more path of which nothing is kept
less_by : (e any : Bool) (old new : Option LexedText) → new ≡ cond e None old → cond any None new ≡ cond (e || any) None old
less_by true true old new is = refl
less_by true false old new is = is
less_by false any old new is = ap (cond any None) is

pub less_more : (q path : List ℕ) (rest : List (List ℕ)) (old new all : Option LexedText) → new ≡ cond (bytes_eq q path) None old →
    cond (list_any (bytes_eq q) (path ∷ rest)) None old ≡ all → cond (list_any (bytes_eq q) rest) None new ≡ all
less_more q path rest old new all put is = less_by (bytes_eq q path) (list_any (bytes_eq q) rest) old new put ∙ is

-- what is kept beside the texts is of no matter
pub lexed_stays : (now : Texts) (old new : KeptLexings) → new.kept ≡ old.kept → HasLexed now old → HasLexed now new
lexed_stays now old new same has path l found = has path l (ap (λ m. tree.get (slice_cmp nat_cmp) m path) (sym same) ∙ found)
