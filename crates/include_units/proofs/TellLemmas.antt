-- Answers that are told one after another.
use Rattle.std.proofs.Common.{◌≡◌, ◌≤◌, refl, sym, ap, ◌∙◌, subst, T, is_some, unwrap_or, [], ℕ, List, ◌∷◌, ◌++◌, length, Option, None, Some, Bool, true, false, if◌then◌else◌, bytes_eq}
use Rattle.std.specs.Option.{option_or}
use Rattle.std.specs.List.{AllByRecursion}
use Rattle.std.proofs.lemmas.List.Elements.{All-from_recursion, recursion_from_All}
use Rattle.tok_data.specs.declared.tokens.PpToken.{PpToken}
use Rattle.asking.specs.LookUps.{look_up}
use Rattle.include_units.specs.declared.types.FileAnswer.{FileAnswer}
use Rattle.include_units.specs.declared.types.FileAnswer.TheVariants.{Absent, There, Tokens, Lines}
use Rattle.include_units.specs.Coming.{IsShortAnswer, IsShort, AreShort}
use Rattle.include_units.specs.Files.{Question, Answer, Text, files, reads, tokens_by}

none_some : {X Y : Type 0} {x : X} → Some x ≡ None → Y
none_some e = absurd (subst (λ o. T (is_some o)) e tt)

or_none : {X : Type 0} (o : Option X) → option_or o None ≡ o
or_none None = refl
or_none (Some x) = refl

or_more : {X : Type 0} (a b c : Option X) → option_or a (option_or b c) ≡ option_or (option_or a b) c
or_more None b c = refl
or_more (Some x) b c = refl

-- one answer more is looked up behind the others
pub told_more : (answers : List (List ℕ × FileAnswer)) (e : List ℕ × FileAnswer) (q : Question) →
    look_up files (answers ++ e ∷ []) q ≡ option_or (look_up files answers q) (reads q e)
told_more [] e q = or_none (reads q e)
told_more (x ∷ xs) e q = ap (option_or (reads q x)) (told_more xs e q) ∙ or_more (reads q x) (look_up files xs q) (reads q e)

pub told_at : (answers items : List (List ℕ × FileAnswer)) (path path' : List ℕ) (answer : FileAnswer) (q : Question) (old new : Option (Answer q)) →
    old ≡ look_up files answers q → new ≡ option_or old (reads q (path', answer)) → path' ≡ path → items ≡ answers ++ (path, answer) ∷ [] → new ≡ look_up files items q
told_at answers items path path' answer q old new o n p i =
    n ∙ ap (λ x. option_or old (reads q (x, answer))) p ∙ ap (λ x. option_or x (reads q (path, answer))) o
    ∙ sym (told_more answers (path, answer) q) ∙ ap (λ xs. look_up files xs q) (sym i)

-- ---- lists of tokens are short

shorts_more : (answers : List (List ℕ × FileAnswer)) (e : List ℕ × FileAnswer) → AllByRecursion IsShort answers → IsShort e → AllByRecursion IsShort (answers ++ e ∷ [])
shorts_more [] e h s = (s, tt)
shorts_more (x ∷ xs) e h s = (h.0, shorts_more xs e h.1 s)

pub short_more : (answers : List (List ℕ × FileAnswer)) (path : List ℕ) (answer : FileAnswer) → AreShort answers → IsShortAnswer answer → AreShort (answers ++ (path, answer) ∷ [])
short_more answers path answer h s =
    All-from_recursion IsShort (answers ++ (path, answer) ∷ []) (shorts_more answers (path, answer) (recursion_from_All IsShort answers h) s)

pub short_none : AreShort []
short_none = All-from_recursion IsShort [] tt

short_by : (answer : FileAnswer) (ts : List PpToken) → IsShortAnswer answer → Some ts ≡ tokens_by answer → length ts ≤ 4290772992
short_by (Tokens tokens) ts h e = subst (λ o. length (unwrap_or o []) ≤ 4290772992) (sym e) h
short_by Absent ts h e = none_some e
short_by There ts h e = none_some e
short_by (Lines places) ts h e = none_some e

read_short : (b : Bool) (answer : FileAnswer) (rest : Option (List PpToken)) (ts : List PpToken) → IsShortAnswer answer →
    (Some ts ≡ rest → length ts ≤ 4290772992) → Some ts ≡ option_or (if b then tokens_by answer else None) rest → length ts ≤ 4290772992
read_short false answer rest ts h more e = more e
read_short true answer rest ts h more e = first (tokens_by answer) refl e
  where
    first : (o : Option (List PpToken)) → o ≡ tokens_by answer → Some ts ≡ option_or o rest → length ts ≤ 4290772992
    first None f e = more e
    first (Some us) f e = short_by answer ts h (e ∙ f)

found_short : (answers : List (List ℕ × FileAnswer)) (path : List ℕ) (ts : List PpToken) → AllByRecursion IsShort answers →
    Some ts ≡ look_up files answers (Text path) → length ts ≤ 4290772992
found_short [] path ts h e = none_some e
found_short (x ∷ xs) path ts h e =
    read_short (bytes_eq path x.0) x.1 (look_up files xs (Text path)) ts h.0 (found_short xs path ts h.1) e

pub told_short : (answers : List (List ℕ × FileAnswer)) (path : List ℕ) (ts : List PpToken) → AreShort answers →
    Some ts ≡ look_up files answers (Text path) → length ts ≤ 4290772992
told_short answers path ts h e = found_short answers path ts (recursion_from_All IsShort answers h) e
