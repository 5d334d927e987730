-- What is read of a database, and the entries with which a unit may begin.
use Rattle.std.proofs.Common.{◌≡◌, ◌≢◌, ℕ, Bool, true, false, cond, List, [], ◌∷◌, Option, None, Some, is_some, unwrap_or, T, bytes_eq, Result, Ok, Err, sym, ap, ◌∙◌, subst}
use Rattle.std.specs.List.{All, find}
use Rattle.std.proofs.lemmas.List.Elements.{All-head, All-tail}
use Rattle.project_conf.specs.Defines.{AreUsable}
use Rattle.project_conf.specs.Entries.{entry_of}
use Rattle.project_conf.specs.declared.conf.UnitConf.{UnitConf}
use Rattle.project_conf.specs.declared.database.ConfError.{ConfError}
use Rattle.project_conf.specs.declared.database.ConfError.TheVariants.{NoMemory}

-- ---- what `commands` answers

abbrev Answer : Type 0
Answer = Result (List UnitConf) ConfError

abbrev is_ok : Answer → Bool
is_ok (Ok units) = true
is_ok (Err e) = false

abbrev error_or : ConfError → Answer → ConfError
error_or other (Ok units) = other
error_or other (Err e) = e

pub read_units : (r meant : Answer) (units : List UnitConf) → r ≡ Ok units → (r ≢ Err NoMemory → r ≡ meant) → Ok units ≡ meant
read_units r meant units is answers =
    sym is ∙ answers (λ wants. subst T (ap is_ok (sym is ∙ wants)) tt)

pub read_fault : (r meant : Answer) (e : ConfError) → r ≡ Err e → e ≢ NoMemory → (r ≢ Err NoMemory → r ≡ meant) → Err e ≡ meant
read_fault r meant e is other answers = sym is ∙ answers (λ wants. other (ap (error_or e) (sym is ∙ wants)))

-- ---- the first entry of a file

some_is : {X : Type 0} (x y : X) → Some x ≡ Some y → x ≡ y
some_is x y same = ap (λ o. unwrap_or o x) same

none_some : {X : Type 0} (x : X) → None ≡ Some x → ⊥
none_some x e = subst (λ o. T (is_some o)) (sym e) tt

abbrev MayBegin : UnitConf → Type 0
MayBegin u = AreUsable 33554432 u.defines

first_by : (b : Bool) (u unit : UnitConf) (rest : Option UnitConf) → MayBegin u → (rest ≡ Some unit → MayBegin unit) → cond b (Some u) rest ≡ Some unit → MayBegin unit
first_by true u unit rest here there is = subst MayBegin (some_is u unit is) here
first_by false u unit rest here there is = there is

pub found_usable : (f : UnitConf → Bool) (units : List UnitConf) (unit : UnitConf) → All MayBegin units → find f units ≡ Some unit → MayBegin unit
found_usable f [] unit all is = absurd (none_some unit is)
found_usable f (u ∷ us) unit all is =
    first_by (f u) u unit (find f us) (All-head MayBegin u us all) (found_usable f us unit (All-tail MayBegin u us all)) is

pub none_found : (file : List ℕ) (entries database : Option (List UnitConf)) → entries ≡ database → entries ≡ None → None ≡ entry_of file (unwrap_or database [])
unfolding entry_of
none_found file entries database same none = ap (λ d. entry_of file (unwrap_or d [])) (sym none ∙ same)

pub entry_usable : (file : List ℕ) (units : List UnitConf) (unit : UnitConf) → All MayBegin units → entry_of file units ≡ Some unit → MayBegin unit
unfolding entry_of
entry_usable file units unit all is = found_usable (λ u. bytes_eq u.file file) units unit all is
