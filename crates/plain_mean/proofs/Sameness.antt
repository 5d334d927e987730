-- The tests of answers and of configurations decide equality.
use Rattle.std.proofs.Common.{◌≡◌, Bool, true, false, not, ◌&&◌, ℕ, List, [], Option, None, Some, is_some, unwrap_or, refl, sym, ap, ap₂, rules}
use Rattle.std.proofs.lemmas.Slice.Eq.{bytes_eq-Decides, slice_eq-Decides}
use Rattle.std.specs.Bool.{Decides}
use Rattle.std.specs.Cmp.{booleans_Decides}
use Rattle.tok_data.specs.declared.tokens.PpKind.{PpKind}
use Rattle.tok_data.specs.declared.tokens.PpToken.{PpToken}
use Rattle.tok_data.specs.contracts.tokens.PpKindPartialEq.TheImpl as kinds
use Rattle.c_tokens.specs.Lexed.{lexed}
use Rattle.doc_texts.specs.Texts.{same_text}
use Rattle.include_units.specs.Files.{Question, Exists, Text, Lines, Answer}
use Rattle.include_units.specs.Runs.{own_places}
use Rattle.project_conf.specs.declared.conf.UnitConf.{UnitConf}
use Rattle.project_conf.specs.declared.options.Define.{Define}
use Rattle.project_conf.specs.declared.options.Define.TheVariants.{Set, Unset}
use Rattle.plain_mean.specs.Renewed.{differs}
use Rattle.plain_mean.specs.Same.{same_token, same_tokens, same_define, same_conf}

both : {P Q : Type 0} (p q : Bool) → Decides p P → Decides q Q → Decides (p && q) (P × Q)
both true q dp dq = ((λ e. (dp.0 refl, dq.0 e)), (λ h. dq.1 h.1))
both false q dp dq = ((λ e. absurd (cc e)), (λ h. dp.1 h.0))

pub not_false : (b : Bool) → not b ≡ false → b ≡ true
not_false true e = refl
not_false false e = cc e

-- ---- tokens

kind_is : (a b : PpKind) → Decides (kinds.eq-value.it a b) (a ≡ b)
kind_is a b = search rules

all_token : (a b : PpToken) → a.kind ≡ b.kind → a.spelling ≡ b.spelling → a.space_before ≡ b.space_before → a.line_start ≡ b.line_start → a ≡ b
all_token a b k s w l = λ i. record { kind = k i; spelling = s i; space_before = w i; line_start = l i }

token_is : (a b : PpToken) → Decides (same_token a b) (a ≡ b)
token_is a b =
    let all = both _ _ (kind_is a.kind b.kind) (both _ _ (bytes_eq-Decides a.spelling b.spelling)
    (both _ _ (booleans_Decides a.space_before b.space_before) (booleans_Decides a.line_start b.line_start))) in (
      (λ e. (let h = all.0 e in all_token a b h.0 h.1.0 h.1.1.0 h.1.1.1)),
      (λ e. all.1 (ap (λ t. t.kind) e, (ap (λ t. t.spelling) e, (ap (λ t. t.space_before) e, ap (λ t. t.line_start) e)))),
    )

pub tokens_is : (a b : List PpToken) → Decides (same_tokens a b) (a ≡ b)
unfolding same_tokens
tokens_is a b = slice_eq-Decides token_is a b (same_tokens a b) refl

-- ---- configurations

define_is : (a b : Define) → Decides (same_define a b) (a ≡ b)
define_is (Set a x) (Set b y) =
    let all = both _ _ (bytes_eq-Decides a b) (bytes_eq-Decides x y) in ((λ e. (let h = all.0 e in ap₂ Set h.0 h.1)), (λ e. all.1 (cc e, cc e)))
define_is (Set a x) (Unset b) = ((λ e. cc e), (λ e. cc e))
define_is (Unset a) (Set b y) = ((λ e. cc e), (λ e. cc e))
define_is (Unset a) (Unset b) = ((λ e. ap Unset ((bytes_eq-Decides a b).0 e)), (λ e. (bytes_eq-Decides a b).1 (cc e)))

all_conf : (a b : UnitConf) → a.file ≡ b.file → a.includes ≡ b.includes → a.defines ≡ b.defines → a ≡ b
all_conf a b f i d = λ j. record { file = f j; includes = i j; defines = d j }

pub conf_is : (a b : UnitConf) → Decides (same_conf a b) (a ≡ b)
unfolding same_conf
conf_is a b =
    let all = both _ _ (bytes_eq-Decides a.file b.file)
    (both _ _ (slice_eq-Decides bytes_eq-Decides a.includes b.includes _ refl) (slice_eq-Decides define_is a.defines b.defines _ refl)) in (
      (λ e. (let h = all.0 e in all_conf a b h.0 h.1.0 h.1.1)),
      (λ e. all.1 (ap (λ c. c.file) e, (ap (λ c. c.includes) e, ap (λ c. c.defines) e))),
    )

-- ---- answers

pub text_is : (a b : Option (List ℕ)) → same_text a b ≡ true → a ≡ b
text_is None None e = refl
text_is None (Some y) e = cc e
text_is (Some x) None e = cc e
text_is (Some x) (Some y) e = ap Some ((bytes_eq-Decides x y).0 e)

text_self : (a : Option (List ℕ)) → same_text a a ≡ true
text_self None = refl
text_self (Some x) = (bytes_eq-Decides x x).1 refl

-- what a text, or that there is none, says of a question about its path
abbrev pub said : Option (List ℕ) → (q : Question) → Answer q
said text (Exists path) = is_some text
said text (Text path) = (lexed (unwrap_or text [])).tokens
said text (Lines path) = own_places (unwrap_or text [])

pub says_same : (before now : Option (List ℕ)) (q : Question) → differs before now q ≡ false → said now q ≡ said before q
says_same before now (Exists path) e = sym ((booleans_Decides (is_some before) (is_some now)).0 (not_false _ e))
says_same before now (Text path) e = sym ((tokens_is (lexed (unwrap_or before [])).tokens (lexed (unwrap_or now [])).tokens).0 (not_false _ e))
says_same before now (Lines path) e = ap (λ text. own_places (unwrap_or text [])) (sym (text_is before now (not_false _ e)))

pub no_other : (text : Option (List ℕ)) (q : Question) → differs text text q ≡ false
no_other text (Exists path) = ap not ((booleans_Decides (is_some text) (is_some text)).1 refl)
no_other text (Text path) = ap not ((tokens_is (lexed (unwrap_or text [])).tokens (lexed (unwrap_or text [])).tokens).1 refl)
no_other text (Lines path) = ap not (text_self text)
