-- Marks of spelled tokens, as they are made token by token.
use Rattle.std.proofs.Common.{◌≡◌, ℕ, Bool, true, false, cond, ◌||◌, List, [], ◌∷◌, ◌++◌, append_assoc, append-nil, map, Option, Some, None, unwrap_or, bytes_eq, refl, sym, ap, ◌∙◌, subst}
use Rattle.std.specs.List.{list_any}
use Rattle.std.proofs.lemmas.Slice.Eq.{bytes_eq-Decides}
use Rattle.doc_texts.specs.Texts.{Texts}
use Rattle.include_units.specs.Coming.{question}
use Rattle.include_units.specs.Files.{Question, Text, same}
use Rattle.include_units.specs.declared.types.Want.{Want}
use Rattle.plain_mean.specs.Given.{given}
use Rattle.plain_mean.specs.Reads.{AreRead, path_in, tokens_in}
use Rattle.plain_mean.specs.Spelled.{mark, mark_in, spelled_marks, told_path, tokens_read}
use Rattle.plain_mean.specs.declared.spelled.Held.{Held}
use Rattle.plain_mean.specs.declared.spelled.Told.{Told}
use Rattle.project_conf.specs.declared.options.Define.{Define}
use Rattle.scope_tables.specs.declared.entities.Occ.{Occ}
use Rattle.tok_data.specs.declared.sources.TokId.{TokId}
use Rattle.tok_data.specs.declared.tokens.PpToken.{PpToken}

-- ---- paths that were told

key_by : (q p : List ℕ) (o : Option (List ℕ)) (b : Bool) → bytes_eq q p ≡ b → cond b (Some p) o ≡ cond b (Some q) o
key_by q p o true e = ap Some (sym ((bytes_eq-Decides q p).0 e))
key_by q p o false e = refl

-- a path that is put in at its name
pub put_here : (q k v p : List ℕ) (o : Option (List ℕ)) → k ≡ p → v ≡ p → cond (bytes_eq q k) (Some v) o ≡ cond (bytes_eq q p) (Some q) o
put_here q k v p o key value = (λ i. cond (bytes_eq q (key i)) (Some (value i)) o) ∙ key_by q p o (bytes_eq q p) refl

or_once : {X : Type 0} (a b : Bool) (x : X) (old new : Option X) → new ≡ cond a (Some x) old → cond b (Some x) new ≡ cond (a || b) (Some x) old
or_once true true x old new e = refl
or_once true false x old new e = e
or_once false b x old new e = ap (cond b (Some x)) e

pub told_begins : (asked : List Question) (told : Told) → ((q : List ℕ) → path_in told q ≡ None) → (q : List ℕ) →
    cond (list_any (same (Text q)) asked) (Some q) (path_in told q) ≡ told_path asked q
unfolding told_path
told_begins asked told none q = ap (cond (list_any (same (Text q)) asked) (Some q)) (none q)

pub told_turns : (q : List ℕ) (want : Want) (rest behind : List Want) (old new all : Option (List ℕ)) → rest ≡ want ∷ behind →
    new ≡ cond (same (Text q) (question want)) (Some q) old → cond (list_any (same (Text q)) (map question rest)) (Some q) old ≡ all →
    cond (list_any (same (Text q)) (map question behind)) (Some q) new ≡ all
told_turns q want rest behind old new all first more is =
    or_once (same (Text q) (question want)) (list_any (same (Text q)) (map question behind)) q old new more
    ∙ ap (λ ws. cond (list_any (same (Text q)) (map question ws)) (Some q) old) (sym first) ∙ is

pub told_ends : (q : List ℕ) (rest : List Want) (now all : Option (List ℕ)) → rest ≡ [] → cond (list_any (same (Text q)) (map question rest)) (Some q) now ≡ all → now ≡ all
told_ends q rest now all none is = ap (λ ws. cond (list_any (same (Text q)) (map question ws)) (Some q) now) (sym none) ∙ is

-- ---- tokens of texts

some_is : {X : Type 0} (x y : X) → Some x ≡ Some y → y ≡ x
some_is x y e = sym (ap (λ o. unwrap_or o x) e)

read_by : (read : List ℕ → List PpToken) (name q : List ℕ) (new tokens : List PpToken) (old : Option (List PpToken)) (b : Bool) → bytes_eq q name ≡ b → new ≡ read name →
    (old ≡ Some tokens → tokens ≡ read q) → cond b (Some new) old ≡ Some tokens → tokens ≡ read q
read_by read name q new tokens old true e is before found = some_is new tokens found ∙ is ∙ ap read (sym ((bytes_eq-Decides q name).0 e))
read_by read name q new tokens old false e is before found = before found

pub read_none : (read : List ℕ → List PpToken) (held : Held) → ((q : List ℕ) → tokens_in held q ≡ None) → AreRead read held
read_none read held none q tokens found = cc (none q, found)

pub read_more : (read : List ℕ → List PpToken) (old new : Held) (name : List ℕ) (tokens : List PpToken) → AreRead read old → tokens ≡ read name →
    ((q : List ℕ) → tokens_in new q ≡ cond (bytes_eq q name) (Some tokens) (tokens_in old q)) → AreRead read new
read_more read old new name tokens are is put q found-tokens found =
    read_by read name q tokens found-tokens (tokens_in old q) (bytes_eq q name) refl is (are q found-tokens) (sym (put q) ∙ found)

-- what is kept, or else what was asked for
pub own_or : {X : Type 0} (x : X) (o : Option X) (other : X) → Some x ≡ o → x ≡ unwrap_or o other
own_or x o other e = ap (λ p. unwrap_or p other) e

pub else_told : {X : Type 0} (x : X) (o : Option X) (other : X) → None ≡ o → x ≡ other → x ≡ unwrap_or o other
else_told x o other none is = is ∙ ap (λ p. unwrap_or p other) none

-- ---- marks

-- of all tokens the front has its marks
pub record IsMarking (t : Texts) (defines : List Define) (asked : List Question) (all rest : List TokId) (marks : List Occ) (held : Held) (now : Texts) : Type 0 where
  pub made : marks ++ map (mark (tokens_read (given t) defines asked)) rest ≡ spelled_marks (given t) defines asked all
  pub held_right : AreRead (tokens_read (given t) defines asked) held
  pub stays : now ≡ t

module _ (t : Texts) (defines : List Define) (asked : List Question) (all : List TokId) where
  pub marking_begins : (marks : List Occ) (held : Held) → marks ≡ [] → ((q : List ℕ) → tokens_in held q ≡ None) → IsMarking t defines asked all all marks held t
  marking_begins marks held none empty = record {
    made = ap (λ ms. ms ++ spelled_marks (given t) defines asked all) none;
    held_right = read_none (tokens_read (given t) defines asked) held empty;
    stays = refl;
  }

  pub marking_turns : (rest behind : List TokId) (tok : TokId) (marks marks' : List Occ) (held held' : Held) (now now' : Texts) (tokens : List PpToken) (one : Occ) →
      IsMarking t defines asked all rest marks held now → rest ≡ tok ∷ behind → now' ≡ now → tokens ≡ tokens_read (given now) defines asked tok.file →
      AreRead (tokens_read (given now) defines asked) held' → one ≡ mark_in tokens tok → marks' ≡ marks ++ one ∷ [] → IsMarking t defines asked all behind marks' held' now'
  marking_turns rest behind tok marks marks' held held' now now' tokens one is first same read more made grown =
      let tokens_are : tokens ≡ tokens_read (given t) defines asked tok.file = subst (λ x. tokens ≡ tokens_read (given x) defines asked tok.file) is.stays read in
      let mark_is : one ≡ mark (tokens_read (given t) defines asked) tok = made ∙ ap (λ ts. mark_in ts tok) tokens_are in record {
        made =
            ap (λ ms. ms ++ map (mark (tokens_read (given t) defines asked)) behind) grown
            ∙ append_assoc marks (one ∷ []) (map (mark (tokens_read (given t) defines asked)) behind)
            ∙ ap (λ m. marks ++ m ∷ map (mark (tokens_read (given t) defines asked)) behind) mark_is
            ∙ ap (λ ts. marks ++ map (mark (tokens_read (given t) defines asked)) ts) (sym first) ∙ is.made;
        held_right = subst (λ x. AreRead (tokens_read (given x) defines asked) held') is.stays more;
        stays = same ∙ is.stays;
      }

  pub marking_ends : (rest : List TokId) (marks : List Occ) (held : Held) (now : Texts) → IsMarking t defines asked all rest marks held now → rest ≡ [] →
      marks ≡ spelled_marks (given t) defines asked all
  marking_ends rest marks held now is none =
      sym (append-nil marks) ∙ ap (λ ts. marks ++ map (mark (tokens_read (given t) defines asked)) ts) (sym none) ∙ is.made
