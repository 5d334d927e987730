-- The entries of a database, one at a time.
use Rattle.std.proofs.Common.{◌≡◌, ℕ, ◌+◌, List, [], ◌∷◌, ◌++◌, map, Option, Some, None, Result, Ok, Err, refl, sym, ap, ◌∙◌, append_assoc, append-nil, length}
use Rattle.std.proofs.lemmas.List.{nil_from_length}
use Rattle.std.proofs.lemmas.Option.{same_Some, none-some}
use Rattle.serde_json.specs.Find.{as_array}
use Rattle.serde_json.specs.Data.{Data, null, boolean, number, string, array, object, Items, item}
use Rattle.serde_json.specs.View.{view, items_of}
use Rattle.serde_json.specs.declared.value.Value.{Value}
use Rattle.project_conf.specs.declared.conf.UnitConf.{UnitConf}
use Rattle.project_conf.specs.declared.database.ConfError.{ConfError}
use Rattle.project_conf.specs.declared.database.ConfError.TheVariants.{NotArray, Entry}
use Rattle.project_conf.specs.Database.{unit_of, in_front, numbered, units_from, units_in}

-- what was read, in front of what is left
abbrev pub behind : List UnitConf → Result (List UnitConf) ConfError → Result (List UnitConf) ConfError
behind made (Ok units) = Ok (made ++ units)
behind made (Err e) = Err e

nothing : (more : Result (List UnitConf) ConfError) → behind [] more ≡ more
nothing (Ok units) = refl
nothing (Err e) = refl

one_more : (made : List UnitConf) (unit : UnitConf) (more : Result (List UnitConf) ConfError) → behind (made ++ unit ∷ []) more ≡ behind made (in_front unit more)
one_more made unit (Ok units) = ap Ok (append_assoc made (unit ∷ []) units)
one_more made unit (Err e) = refl

module _ (root : List ℕ) (n : ℕ) (d : Data) (ds : Items) (made : List UnitConf) (all : Result (List UnitConf) ConfError) (reads : behind made (units_from root n (item d ds)) ≡ all) where
  by : (o : Option UnitConf) → unit_of root d ≡ o → behind made (numbered n o (units_from root (n + 1) ds)) ≡ all
  unfolding units_from
  by o h = ap (λ x. behind made (numbered n x (units_from root (n + 1) ds))) (sym h) ∙ reads

  pub entry_turns : (from : List ℕ) (unit : UnitConf) (made' : List UnitConf) → from ≡ root → Some unit ≡ unit_of from d → made' ≡ made ++ unit ∷ [] → behind made' (units_from root (n + 1) ds) ≡ all
  entry_turns from unit made' same h e =
      ap (λ m. behind m (units_from root (n + 1) ds)) e ∙ one_more made unit _ ∙ by (Some unit) (sym (h ∙ ap (λ r. unit_of r d) same))

  pub entry_fails : (from : List ℕ) → from ≡ root → None ≡ unit_of from d → Err (Entry n) ≡ all
  entry_fails from same h = by None (sym (h ∙ ap (λ r. unit_of r d) same))

pub entries_begin : (root : List ℕ) (ds : Items) (made : List UnitConf) → made ≡ [] → behind made (units_from root 0 ds) ≡ units_from root 0 ds
entries_begin root ds made h = ap (λ m. behind m (units_from root 0 ds)) h ∙ nothing (units_from root 0 ds)

pub entries_end : (root : List ℕ) (n : ℕ) (vs : List Value) (made made' : List UnitConf) (all : Result (List UnitConf) ConfError) → behind made (units_from root n (items_of (map view vs))) ≡ all → length vs ≡ 0 → made' ≡ made → Ok made' ≡ all
unfolding units_from
entries_end root n vs made made' all h e k =
    ap Ok (k ∙ sym (append-nil made)) ∙ sym (ap (λ v. behind made (units_from root n (items_of (map view v)))) (nil_from_length vs e)) ∙ h

pub units_in_array : (root : List ℕ) (d : Data) (ds : Items) → as_array d ≡ Some ds → units_from root 0 ds ≡ units_in root d
units_in_array root null ds h = absurd (none-some _ h)
units_in_array root (boolean b) ds h = absurd (none-some _ h)
units_in_array root (number n) ds h = absurd (none-some _ h)
units_in_array root (string s) ds h = absurd (none-some _ h)
units_in_array root (array es) ds h = ap (units_from root 0) (sym (same_Some _ _ h))
units_in_array root (object ms) ds h = absurd (none-some _ h)

pub units_in_other : (root : List ℕ) (d : Data) → as_array d ≡ None → Err NotArray ≡ units_in root d
units_in_other root null h = refl
units_in_other root (boolean b) h = refl
units_in_other root (number n) h = refl
units_in_other root (string s) h = refl
units_in_other root (array es) h = absurd (none-some _ (sym h))
units_in_other root (object ms) h = refl
