-- What stands in front of an operand, in two turns: it is read from the front, and applied from the last one back.
use Rattle.std.proofs.Common.{◌≡◌, refl, sym, ap, ◌∙◌, List, [], ◌∷◌}
use Rattle.asking.specs.Asking.{Gives, and_then}
use Rattle.asking.specs.LookUps.{LookUp, run_by}
use Rattle.type_data.specs.declared.judged.Judged.{Judged}
use Rattle.tree_data.specs.Trees.{Front, Operator_of, Cast_of, Choice_of, Left_of, Fronts, None_before, Front_then}
use Rattle.elab_state.specs.declared.around.Where.{Where}
use Rattle.elab_state.specs.declared.made.Made.{Made}
use Rattle.elab_state.specs.Doings.{Doing, follow, gives}
use Rattle.elab_state.specs.Contexts.{Context}
use Rattle.elab_state.specs.Wants.{wants}
use Rattle.elab_core.specs.declared.unary.Waiting.{Waiting}
use Rattle.elab_core.specs.declared.unary.Waiting.TheVariants as waiting
use Rattle.elab_core.specs.Expressions.{behind_prefix, front, go_back, judge, type_name}
use Rattle.elab_core.specs.Waits.{Awaited, all_applied, applied, await, awaits}
use Rattle.elab_core.proofs.Turns.{run_gives, run_same, run_twice}

module _ (look : LookUp wants) (c : Context) where
  -- one part: what it makes of the operand, and then what waits further out makes of that
  front_is : (w : Where) (f : Front) (ws : List Waiting) (rest : Where → Made → Doing Judged) (m : Made) →
      run_by look (follow (front c w f rest m) (λ j. all_applied c ws j))
      ≡ run_by look (follow (await c w f ws m) (λ a now. follow (rest a.0 now) (λ j. all_applied c a.1 j)))
  front_is w (Operator_of o) ws rest m =
      run_twice look (rest (behind_prefix c o w) m) (λ r. applied c (waiting.Operator o) r.0 r.1) (λ r. all_applied c ws r.0 r.1)
  front_is w (Cast_of o t e) ws rest m =
      run_twice look (type_name c w t m) (λ r. follow (rest w r.1) (λ j. applied c (waiting.Cast o r.0) j)) (λ r. all_applied c ws r.0 r.1)
      ∙ run_same look (type_name c w t m)
      (λ r. and_then (follow (rest w r.1) (λ j. applied c (waiting.Cast o r.0) j)) (λ q. all_applied c ws q.0 q.1))
      (λ r. follow (rest w r.1) (λ j. all_applied c (waiting.Cast o r.0 ∷ ws) j))
      (λ r. run_twice look (rest w r.1) (λ q. applied c (waiting.Cast o r.0) q.0 q.1) (λ q. all_applied c ws q.0 q.1))
      ∙ sym (run_twice look (type_name c w t m) (λ r. gives (w, waiting.Cast o r.0 ∷ ws) r.1) (λ a. follow (rest a.0.0 a.1) (λ j. all_applied c a.0.1 j)))
  front_is w (Choice_of t q x e) ws rest m =
      run_twice look (judge c w t m) (λ b. follow (judge c w x b.1) (λ j next. follow (rest w next) (λ k. applied c (waiting.Choice q b.0 j) k))) (λ r. all_applied c ws r.0 r.1)
      ∙ run_same look (judge c w t m)
      (λ b. and_then (follow (judge c w x b.1) (λ j next. follow (rest w next) (λ k. applied c (waiting.Choice q b.0 j) k))) (λ r. all_applied c ws r.0 r.1))
      (λ b. and_then (follow (judge c w x b.1) (λ j. gives (w, waiting.Choice q b.0 j ∷ ws))) (λ a. follow (rest a.0.0 a.1) (λ k. all_applied c a.0.1 k)))
      (λ b.
      run_twice look (judge c w x b.1) (λ j. follow (rest w j.1) (λ k. applied c (waiting.Choice q b.0 j.0) k)) (λ r. all_applied c ws r.0 r.1)
      ∙ run_same look (judge c w x b.1)
      (λ j. and_then (follow (rest w j.1) (λ k. applied c (waiting.Choice q b.0 j.0) k)) (λ r. all_applied c ws r.0 r.1))
      (λ j. follow (rest w j.1) (λ k. all_applied c (waiting.Choice q b.0 j.0 ∷ ws) k))
      (λ j. run_twice look (rest w j.1) (λ r. applied c (waiting.Choice q b.0 j.0) r.0 r.1) (λ r. all_applied c ws r.0 r.1))
      ∙ sym (run_twice look (judge c w x b.1) (λ j. gives (w, waiting.Choice q b.0 j.0 ∷ ws) j.1) (λ a. follow (rest a.0.0 a.1) (λ k. all_applied c a.0.1 k))))
      ∙ sym (run_twice look (judge c w t m) (λ b. follow (judge c w x b.1) (λ j. gives (w, waiting.Choice q b.0 j ∷ ws))) (λ a. follow (rest a.0.0 a.1) (λ j. all_applied c a.0.1 j)))
  front_is w (Left_of t o) ws rest m =
      run_twice look (judge c w t m) (λ r. follow (rest w r.1) (λ k. applied c (waiting.Left o r.0) k)) (λ r. all_applied c ws r.0 r.1)
      ∙ run_same look (judge c w t m)
      (λ r. and_then (follow (rest w r.1) (λ k. applied c (waiting.Left o r.0) k)) (λ q. all_applied c ws q.0 q.1))
      (λ r. follow (rest w r.1) (λ k. all_applied c (waiting.Left o r.0 ∷ ws) k))
      (λ r. run_twice look (rest w r.1) (λ q. applied c (waiting.Left o r.0) q.0 q.1) (λ q. all_applied c ws q.0 q.1))
      ∙ sym (run_twice look (judge c w t m) (λ r. gives (w, waiting.Left o r.0 ∷ ws) r.1) (λ a. follow (rest a.0.0 a.1) (λ j. all_applied c a.0.1 j)))

  fronts_are : (w : Where) (fs : Fronts) (ws : List Waiting) (last : Where → Made → Doing Judged) (m : Made) →
      run_by look (follow (go_back c w fs last m) (λ j. all_applied c ws j))
      ≡ run_by look (follow (awaits c w fs ws m) (λ a now. follow (last a.0 now) (λ j. all_applied c a.1 j)))
  fronts_are w None_before ws last m = refl
  fronts_are w (Front_then f fs) ws last m =
      front_is w f ws (λ v. go_back c v fs last) m
      ∙ run_same look (await c w f ws m)
      (λ a. follow (go_back c a.0.0 fs last a.1) (λ j. all_applied c a.0.1 j))
      (λ a. and_then (awaits c a.0.0 fs a.0.1 a.1) (λ b. follow (last b.0.0 b.1) (λ j. all_applied c b.0.1 j)))
      (λ a. fronts_are a.0.0 fs a.0.1 last a.1)
      ∙ sym (run_twice look (await c w f ws m) (λ a. awaits c a.0.0 fs a.0.1 a.1) (λ b. follow (last b.0.0 b.1) (λ j. all_applied c b.0.1 j)))

  -- from the front, and then back
  pub goes_back : (w : Where) (fs : Fronts) (last : Where → Made → Doing Judged) (m : Made) →
      run_by look (go_back c w fs last m)
      ≡ run_by look (follow (awaits c w fs [] m) (λ a now. follow (last a.0 now) (λ j. all_applied c a.1 j)))
  goes_back w fs last m = sym (run_gives look (go_back c w fs last m)) ∙ fronts_are w fs [] last m
