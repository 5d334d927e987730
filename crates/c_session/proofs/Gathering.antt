-- What is gathered of units, one behind the other.
use Rattle.std.proofs.Common.{◌≡◌, ℕ, List, [], ◌∷◌, ◌++◌, append_assoc, refl, sym, ap, ◌∙◌, subst}
use Rattle.std.proofs.lemmas.List.{append-nil, flat_map_more}
use Rattle.tok_data.specs.declared.faults.ShownFault.{ShownFault}
use Rattle.plain_mean.specs.Gathered.{AreGathered}
use Rattle.plain_mean.specs.declared.lists.Gathered.{Gathered}
use Rattle.unit_index.specs.Known.{Known}
use Rattle.c_session.specs.Units.{all_reads, own_faults}

-- whatever was gathered in front, with what is left of the units it is the whole
pub record Gathers (start now : Gathered) (units rest : List Known) : Type 0 where
  pub done : List Known
  pub parts : done ++ rest ≡ units
  pub are : (fs : List ShownFault) (rs : List (List ℕ)) → AreGathered fs rs start → AreGathered (fs ++ own_faults done) (rs ++ all_reads done) now

pub gathers_begins : (start : Gathered) (units : List Known) → Gathers start start units units
gathers_begins start units = record {
  done = [];
  parts = refl;
  are = λ fs rs are. subst (λ xs. AreGathered xs (rs ++ []) start) (sym (append-nil fs)) (subst (λ xs. AreGathered fs xs start) (sym (append-nil rs)) are);
}

pub gathers_turns : (start now now' : Gathered) (units rest behind : List Known) (u : Known) → rest ≡ u ∷ behind →
    ((fs : List ShownFault) (rs : List (List ℕ)) → AreGathered fs rs now → AreGathered (fs ++ u.meaning.faults) (rs ++ u.reads) now') → Gathers start now units rest → Gathers start now' units behind
gathers_turns start now now' units rest behind u first more g = record {
  done = g.done ++ u ∷ [];
  parts = append_assoc g.done (u ∷ []) behind ∙ ap (λ us. g.done ++ us) (sym first) ∙ g.parts;
  are = λ fs rs are.
      subst (λ xs. AreGathered xs (rs ++ all_reads (g.done ++ u ∷ [])) now') (flat_map_more (λ (k : Known). k.meaning.faults) fs g.done u)
      (subst (λ xs. AreGathered ((fs ++ own_faults g.done) ++ u.meaning.faults) xs now') (flat_map_more (λ (k : Known). k.reads) rs g.done u) (more (fs ++ own_faults g.done) (rs ++ all_reads g.done) (g.are fs rs are)));
}

pub gathers_ends : (start now : Gathered) (units rest : List Known) → rest ≡ [] → Gathers start now units rest →
    (fs : List ShownFault) (rs : List (List ℕ)) → AreGathered fs rs start → AreGathered (fs ++ own_faults units) (rs ++ all_reads units) now
gathers_ends start now units rest none g fs rs are =
    subst (λ us. AreGathered (fs ++ own_faults us) (rs ++ all_reads us) now) (sym (append-nil g.done) ∙ ap (λ us. g.done ++ us) (sym none) ∙ g.parts) (g.are fs rs are)
