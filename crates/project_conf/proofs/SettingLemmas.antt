-- What some words say, a word at a time.
use Rattle.std.proofs.Common.{◌≡◌, ℕ, Bool, true, false, if◌then◌else◌, codes, List, [], ◌∷◌, ◌++◌, Option, Some, None, map, option_map, option_and_then, refl, sym, ap, ◌∙◌, append-nil, length}
use Rattle.std.proofs.lemmas.List.{nil_from_length}
use Rattle.std.proofs.lemmas.Option.{same_Some, none-some}
use Rattle.serde_json.specs.Data.{Data, Items, item}
use Rattle.serde_json.specs.Find.{as_str}
use Rattle.serde_json.specs.View.{view, items_of}
use Rattle.serde_json.specs.declared.value.Value.{Value}
use Rattle.project_conf.specs.declared.options.Define.{Define}
use Rattle.project_conf.specs.declared.options.Define.TheVariants as define
use Rattle.project_conf.specs.declared.settings.Gives.{Gives}
use Rattle.project_conf.specs.declared.settings.Gives.TheVariants.{Set}
use Rattle.project_conf.specs.declared.conf.UnitConf.{UnitConf}
use Rattle.c_tokens.specs.Languages.{is_identifier}
use Rattle.uri_paths.specs.Paths.{within}
use Rattle.project_conf.specs.Lists.{define_in}
use Rattle.project_conf.specs.Settings.{settings_from, folders_of, defines_of, defines_by, name_in, text_in}
use Rattle.project_conf.specs.Database.{texts_in, text_at, path_at}

-- ---- the end of the words

pub no_more_folders : (directory : List ℕ) (waiting : Option Gives) (words : List (List ℕ)) (xs ys : List (List ℕ)) → xs ++ folders_of directory (settings_from waiting words) ≡ ys → words ≡ [] → xs ≡ ys
unfolding settings_from
no_more_folders directory waiting words xs ys h e = sym (ap (λ ws. xs ++ folders_of directory (settings_from waiting ws)) e ∙ append-nil xs) ∙ h

pub no_more_defines : (waiting : Option Gives) (words : List (List ℕ)) (xs ys : List Define) → xs ++ defines_of (settings_from waiting words) ≡ ys → words ≡ [] → xs ≡ ys
unfolding settings_from
no_more_defines waiting words xs ys h e = sym (ap (λ ws. xs ++ defines_of (settings_from waiting ws)) e ∙ append-nil xs) ∙ h

-- ---- the texts of an array

abbrev texts_and : Option (List ℕ) → Option (List (List ℕ)) → Option (List (List ℕ))
texts_and first more = option_and_then (λ text. option_map (λ texts. text ∷ texts) more) first

module _ {X : Type 0} where
  map_map : (f g : List (List ℕ) → X) (word : List ℕ) (o : Option (List (List ℕ))) → ((words : List (List ℕ)) → g words ≡ f (word ∷ words)) → option_map g o ≡ option_map f (option_map (λ texts. word ∷ texts) o)
  map_map f g word None h = refl
  map_map f g word (Some words) h = ap Some (h words)

  pub text_turns : (d : Data) (ds : Items) (word : List ℕ) (f g : List (List ℕ) → X) (all : Option X) → option_map f (texts_in (item d ds)) ≡ all → as_str d ≡ Some word
      → ((words : List (List ℕ)) → g words ≡ f (word ∷ words)) → option_map g (texts_in ds) ≡ all
  text_turns d ds word f g all h e turn =
      map_map f g word (texts_in ds) turn ∙ ap (λ o. option_map f (texts_and o (texts_in ds))) (sym e) ∙ h

  pub text_lacks : (d : Data) (ds : Items) (f : List (List ℕ) → X) (all : Option X) → option_map f (texts_in (item d ds)) ≡ all → as_str d ≡ None → all ≡ None
  text_lacks d ds f all h e = sym h ∙ ap (λ o. option_map f (texts_and o (texts_in ds))) e

-- ---- the unit of an entry

abbrev pub unit : List ℕ → List (List ℕ) → List Define → UnitConf
unit file includes defines = record { file = file; includes = includes; defines = defines }

pub unit_made : (file : List ℕ) (f : List (List ℕ) → List (List ℕ)) (g : List (List ℕ) → List Define) (includes : List (List ℕ)) (defines : List Define) (o : Option (List (List ℕ)))
    → Some includes ≡ option_map f o → Some defines ≡ option_map g o
    → Some (unit file includes defines) ≡ option_map (λ words. unit file (f words) (g words)) o
unit_made file f g includes defines None h k = absurd (none-some _ (sym h))
unit_made file f g includes defines (Some words) h k = λ i. Some (unit file (same_Some _ _ h i) (same_Some _ _ k i))

pub unit_lacks : {X : Type 0} (file : List ℕ) (f : List (List ℕ) → X) (g : List (List ℕ) → UnitConf) (o : Option (List (List ℕ))) → None ≡ option_map f o → None ≡ option_map g o
unit_lacks file f g None h = refl
unit_lacks file f g (Some words) h = absurd (none-some _ h)

-- ---- the end of an array

pub texts_end : {X : Type 0} (f : List (List ℕ) → X) (x : X) (vs : List Value) (all : Option X) → option_map f (texts_in (items_of (map view vs))) ≡ all → length vs ≡ 0 → f [] ≡ x → Some x ≡ all
texts_end f x vs all h e k = ap Some (sym k) ∙ sym (ap (λ v. option_map f (texts_in (items_of (map view v)))) (nil_from_length vs e)) ∙ h

pub nil_folders : (directory : List ℕ) (waiting : Option Gives) (xs : List (List ℕ)) → xs ++ folders_of directory (settings_from waiting []) ≡ xs
unfolding settings_from
nil_folders directory waiting xs = append-nil xs

pub nil_defines : (waiting : Option Gives) (xs : List Define) → xs ++ defines_of (settings_from waiting []) ≡ xs
unfolding settings_from
nil_defines waiting xs = append-nil xs

-- ---- the definition that a text says

pub set_given : (text : List ℕ) (d : Define) → Some d ≡ define_in text → defines_by Set text ≡ d ∷ []
set_given text d h = by (is_identifier (name_in text)) h
  where
    by : (b : Bool) → Some d ≡ (if b then Some (define.Set (name_in text) (text_in text)) else None) → (if b then define.Set (name_in text) (text_in text) ∷ [] else []) ≡ d ∷ []
    by true e = ap (λ x. x ∷ []) (sym (same_Some _ _ e))
    by false e = absurd (none-some _ (sym e))

pub none_given : (text : List ℕ) → None ≡ define_in text → defines_by Set text ≡ []
none_given text h = by (is_identifier (name_in text)) h
  where
    by : (b : Bool) → None ≡ (if b then Some (define.Set (name_in text) (text_in text)) else None) → (if b then define.Set (name_in text) (text_in text) ∷ [] else []) ≡ []
    by true e = absurd (none-some _ e)
    by false e = refl

-- ---- the directory of an entry

pub entered : (root : List ℕ) (entry : Data) (text path : List ℕ) → text_at (codes "directory") entry ≡ Some text → Some path ≡ within root text → Some path ≡ path_at root (codes "directory") entry
entered root entry text path h k = k ∙ sym (ap (λ o. option_and_then (λ t. within root t) o) h)

pub not_entered : (root : List ℕ) (entry : Data) (text : List ℕ) → text_at (codes "directory") entry ≡ Some text → None ≡ within root text → None ≡ path_at root (codes "directory") entry
not_entered root entry text h k = k ∙ sym (ap (λ o. option_and_then (λ t. within root t) o) h)
