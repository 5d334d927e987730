-- Parameters, in two turns: their types are read from the front onto a stack, and the list is made from its top.
use Rattle.std.proofs.Common.{◌≡◌, refl, sym, ap, ◌∙◌, List, [], ◌∷◌, Option, Some, false}
use Rattle.asking.specs.Asking.{Gives, and_then}
use Rattle.asking.specs.LookUps.{LookUp, run_by}
use Rattle.type_data.specs.declared.qualifiers.Proto.{Proto}
use Rattle.type_data.specs.Types as types
use Rattle.tree_data.specs.Trees.{Row, No_more, Parameter_then}
use Rattle.elab_state.specs.declared.around.Where.{Where}
use Rattle.elab_state.specs.declared.made.Made.{Made}
use Rattle.elab_state.specs.Contexts.{Context}
use Rattle.elab_state.specs.Doings.{Doing, follow, gives}
use Rattle.elab_state.specs.Wants.{wants}
use Rattle.elab_core.specs.declared.shapes.Typed.{Typed}
use Rattle.elab_core.specs.Entries.{stacked}
use Rattle.elab_core.specs.Expressions.{entries, entry, others}
use Rattle.elab_core.specs.Parameters.{all_in_front, function_step, in_front}
use Rattle.elab_core.proofs.Turns.{run_same, run_twice}

module _ (look : LookUp wants) (c : Context) (w : Where) where
  stacked_are : {B : Type 0} (k : Option types.Parameters → B) (ps : Row) (ts : List (Option Typed)) (m : Made) →
      run_by look (follow (stacked c w ps ts m) (λ us. gives (k (all_in_front us (Some types.No_more)))))
      ≡ run_by look (follow (others c w ps m) (λ list. gives (k (all_in_front ts list))))
  stacked_are k No_more ts m = refl
  stacked_are k (Parameter_then o p ps) ts m =
      run_twice look (follow (entry c w p false m) (λ t. gives (t ∷ ts))) (λ r. stacked c w ps r.0 r.1) (λ r. gives (k (all_in_front r.0 (Some types.No_more))) r.1)
      ∙ run_twice look (entry c w p false m) (λ r. gives (r.0 ∷ ts) r.1) (λ x. and_then (stacked c w ps x.0 x.1) (λ r. gives (k (all_in_front r.0 (Some types.No_more))) r.1))
      ∙ run_same look (entry c w p false m)
      (λ r. and_then (stacked c w ps (r.0 ∷ ts) r.1) (λ q. gives (k (all_in_front q.0 (Some types.No_more))) q.1))
      (λ r. follow (others c w ps r.1) (λ list. gives (k (all_in_front (r.0 ∷ ts) list))))
      (λ r. stacked_are k ps (r.0 ∷ ts) r.1)
      ∙ run_same look (entry c w p false m)
      (λ r. follow (others c w ps r.1) (λ list. gives (k (all_in_front (r.0 ∷ ts) list))))
      (λ r. and_then (follow (others c w ps r.1) (λ list. gives (in_front r.0 list))) (λ q. gives (k (all_in_front ts q.0)) q.1))
      (λ r. sym (run_twice look (others c w ps r.1) (λ x. gives (in_front r.0 x.0) x.1) (λ q. gives (k (all_in_front ts q.0)) q.1)))
      ∙ sym (run_twice look (entry c w p false m) (λ r. follow (others c w ps r.1) (λ list. gives (in_front r.0 list))) (λ q. gives (k (all_in_front ts q.0)) q.1))

  -- the first parameter, and the others
  pub entries_are : (kind : Proto) (first : Made → Doing (Option Typed)) (ps : Row) (m : Made) →
      run_by look (entries kind first (others c w ps) m)
      ≡ run_by look (follow (follow (first m) (λ t. gives (t ∷ []))) (λ ts now. follow (stacked c w ps ts now) (λ us. gives (function_step kind (all_in_front us (Some types.No_more))))))
  entries_are kind first ps m =
      run_same look (first m)
      (λ r. follow (others c w ps r.1) (λ list. gives (function_step kind (in_front r.0 list))))
      (λ r. follow (stacked c w ps (r.0 ∷ []) r.1) (λ us. gives (function_step kind (all_in_front us (Some types.No_more)))))
      (λ r. sym (stacked_are (function_step kind) ps (r.0 ∷ []) r.1))
      ∙ sym (run_twice look (first m) (λ r. gives (r.0 ∷ []) r.1) (λ x. follow (stacked c w ps x.0 x.1) (λ us. gives (function_step kind (all_in_front us (Some types.No_more))))))
