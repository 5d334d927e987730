-- What asks and then goes on, by what the first comes to.
use Rattle.std.proofs.Common.{◌≡◌, refl, sym, ap, ◌∙◌, List, [], ◌∷◌, ℕ, Option, None, Some}
use Rattle.asking.specs.Asking.{Gives, Asks, and_then}
use Rattle.asking.specs.LookUps.{LookUp, Looked, Ends, Needs, run_by, by_found, found_all, unanswered, and_look, look_up}
use Rattle.include_units.specs.declared.types.FileAnswer.{FileAnswer}
use Rattle.include_units.specs.declared.stop.Stop.{Stop}
use Rattle.include_units.specs.declared.stop.Stop.TheVariants.{Need, NoMemory}
use Rattle.include_units.specs.Coming.{Stops, question}
use Rattle.include_units.specs.Files.{Question, files, FromFiles}

module _ {A B : Type 0} where
  by_cases : {X : Type 0} (wanted : List Question) (f : X → Looked files A) (g : X → Looked files B) (k : A → Looked files B) (o : Option X) →
      ((x : X) → g x ≡ and_look (f x) k) → by_found wanted g o ≡ and_look (by_found wanted f o) k
  by_cases wanted f g k None h = refl
  by_cases wanted f g k (Some x) h = h x

  pub run_and : (look : LookUp files) (asking : FromFiles A) (k : A → FromFiles B) →
      run_by look (and_then asking k) ≡ and_look (run_by look asking) (λ x. run_by look (k x))
  run_and look (Gives x) k = refl
  run_and look (Asks q more next) k =
      by_cases (unanswered files look (q ∷ more)) (λ answers. run_by look (next answers)) (λ answers. run_by look (and_then (next answers) k)) (λ x. run_by look (k x)) (found_all files look (q ∷ more)) (λ answers. run_and look (next answers) k)

  pub run_then : (look : LookUp files) (asking : FromFiles A) (k : A → FromFiles B) (x : A) →
      run_by look asking ≡ Ends x → run_by look (and_then asking k) ≡ run_by look (k x)
  run_then look asking k x e = run_and look asking k ∙ ap (λ l. and_look l (λ y. run_by look (k y))) e

  pub run_needs : (look : LookUp files) (asking : FromFiles A) (k : A → FromFiles B) (qs : List Question) →
      run_by look asking ≡ Needs qs → run_by look (and_then asking k) ≡ Needs qs
  run_needs look asking k qs e = run_and look asking k ∙ ap (λ l. and_look l (λ y. run_by look (k y))) e

  -- what stops the first stops the whole
  pub stops_on : (answers : List (List ℕ × FileAnswer)) (asking : FromFiles A) (k : A → FromFiles B) (stop : Stop) →
      Stops answers asking stop → Stops answers (and_then asking k) stop
  stops_on answers asking k (Need want) e = run_needs (look_up files answers) asking k (question want ∷ []) e
  stops_on answers asking k NoMemory e = tt

pub stops_same : {A : Type 0} (answers : List (List ℕ × FileAnswer)) (a b : FromFiles A) (stop : Stop) →
    run_by (look_up files answers) a ≡ run_by (look_up files answers) b → Stops answers a stop → Stops answers b stop
stops_same answers a b (Need want) e h = sym e ∙ h
stops_same answers a b NoMemory e h = tt
