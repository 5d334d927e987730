-- Walks from tag to tag, place by place.
use Rattle.std.proofs.Common.{◌≡◌, refl, sym, ap, ◌∙◌, ℕ, zero, suc, ◌+◌, ◌-◌, ◌<◌, ◌^◌, arith, List, [], ◌∷◌, Option, None, Some}
use Rattle.std.specs.Map.{lookup}
use Rattle.std.specs.Prelude.{slice_get}
use Rattle.asking.specs.Asking.{Asking, Gives, and_then}
use Rattle.asking.specs.LookUps.{Ends, LookUp, Looked, run_by}
use Rattle.type_data.specs.declared.members.Member.{Member}
use Rattle.type_data.specs.declared.names.ItemName.{ItemName}
use Rattle.type_data.specs.declared.names.TagId.{TagId}
use Rattle.type_data.specs.Same.{same_tag}
use Rattle.type_rel.specs.Inside.{most_tags}
use Rattle.elab_state.specs.declared.halt.Halt.{Halt}
use Rattle.elab_state.specs.Comes.{Stops}
use Rattle.elab_state.specs.Doings.{Made}
use Rattle.elab_state.specs.Looks.{if_any, reached_info, told, walked}
use Rattle.elab_state.specs.Wants.{wants}
use Rattle.elab_state.proofs.Runs.{run_then, stops_as, stops_on}

-- a place that is there leaves room for one more
pub one_more : (place : ℕ) → place < 2 ^ 63 → most_tags - place ≡ suc (most_tags - (place + 1))
unfolding most_tags
one_more place h = omega arith

module _ (look : LookUp wants) (leads : Member → Option TagId) (item : ItemName) where
  abbrev on : ℕ → List TagId → ℕ → Made → TagId → Asking wants Made
  on n ids at m id = and_then (told item id m) (λ now. walked n leads item (reached_info leads ids (lookup (same_tag id) now.tags)) (at + 1) now)

  pub walk_ends : (n : ℕ) (ids : List TagId) (at : ℕ) (m : Made) → slice_get ids at ≡ None → run_by look (walked n leads item ids at m) ≡ Ends m
  walk_ends zero ids at m e = refl
  walk_ends (suc n) ids at m e = ap (λ o. run_by look (if_any o (on n ids at m) m)) e

  enters : (n : ℕ) (ids : List TagId) (at : ℕ) (m : Made) (id : TagId) → slice_get ids at ≡ Some id → run_by look (walked (suc n) leads item ids at m) ≡ run_by look (on n ids at m id)
  enters n ids at m id e = ap (λ o. run_by look (if_any o (on n ids at m) m)) e

  pub walk_turns : (n k : ℕ) (ids more : List TagId) (at : ℕ) (m now : Made) (id : TagId) → n ≡ suc k → slice_get ids at ≡ Some id → run_by look (told item id m) ≡ Ends now →
      more ≡ reached_info leads ids (lookup (same_tag id) now.tags) → run_by look (walked n leads item ids at m) ≡ run_by look (walked k leads item more (at + 1) now)
  walk_turns n k ids more at m now id size e h is =
      ap (λ s. run_by look (walked s leads item ids at m)) size
      ∙ enters k ids at m id e
      ∙ run_then look (told item id m) (λ made. walked k leads item (reached_info leads ids (lookup (same_tag id) made.tags)) (at + 1) made) now h
      ∙ ap (λ xs. run_by look (walked k leads item xs (at + 1) now)) (sym is)

  pub walk_stops : (n k : ℕ) (ids : List TagId) (at : ℕ) (m : Made) (id : TagId) (halt : Halt) → n ≡ suc k → slice_get ids at ≡ Some id → Stops (run_by look (told item id m)) halt →
      Stops (run_by look (walked n leads item ids at m)) halt
  walk_stops n k ids at m id halt size e h =
      stops_as (run_by look (walked n leads item ids at m)) (run_by look (on k ids at m id)) halt
      (ap (λ s. run_by look (walked s leads item ids at m)) size ∙ enters k ids at m id e)
      (stops_on look (told item id m) (λ made. walked k leads item (reached_info leads ids (lookup (same_tag id) made.tags)) (at + 1) made) halt h)
