-- All units of the texts, as the questions see them, and the warnings across them.
use Rattle.std.specs.Prelude.{◌≡◌, ℕ, List, map, flat_map}
use Rattle.doc_texts.specs.Texts.{Texts}
use Rattle.project_conf.specs.declared.conf.Conf.{Conf}
use Rattle.plain_mean.specs.Meanings.{meaning}
use Rattle.plain_mean.specs.Shown.{units}
use Rattle.plain_mean.specs.declared.types.UnitMeaning.{UnitMeaning}
use Rattle.tok_data.specs.declared.faults.ShownFault.{ShownFault}
use Rattle.unit_index.specs.Cross.{cross}
use Rattle.unit_index.specs.Crossing.{Sight, all_crossings, sight}
use Rattle.unit_index.specs.declared.crossing.Crossing.{Crossing}
use Rattle.unit_index.specs.Exported.{Shown as Exported}
use Rattle.unit_index.specs.Known.{Known}
use Rattle.unit_index.specs.Matching.{matched}
use Rattle.unit_index.specs.News.{AreNews}
use Rattle.unit_index.specs.declared.across.news.News.{News}

abbrev pub known_as : List ℕ → UnitMeaning → Known
known_as path m = record { path = path; reads = m.reads; meaning = m.meaning }

abbrev pub known_unit : Texts → Conf → List ℕ → Known
known_unit texts conf path = known_as path (meaning texts conf path)

-- in order of path
unfoldable pub known : Texts → Conf → List Known
known texts conf = map (known_unit texts conf) (units texts conf)

-- the faults of these units, and the paths that they read
abbrev pub own_faults : List Known → List ShownFault
own_faults us = flat_map (λ u. u.meaning.faults) us

abbrev pub all_reads : List Known → List (List ℕ)
all_reads us = flat_map (λ u. u.reads) us

-- what a unit shows to the others
abbrev pub exported : Known → Exported
exported u = record { path = u.path; exports = u.meaning.exports }

-- the warnings across these units (ISO C11 6.2.7p2, 6.9p5)
unfoldable pub cross_faults : List Known → List ShownFault
cross_faults us = map (λ c. c.fault) (cross matched (map exported us))

-- ---- what is kept of them

-- what these units see of one another
abbrev pub sights : List Known → List Sight
sights us = map (λ u. sight (exported u)) us

-- the warnings across these units, of each, without their tokens
unfoldable pub crossed : List Known → List (List Crossing)
crossed us = all_crossings matched (map sight (map exported us))

-- they were those of what these units showed before, by the news of them
pub record WereCrossed (kept : List (List Crossing)) (news : News) (us : List Known) : Type 0 where
  pub saw : List Sight
  pub are : AreNews saw (sights us) news
  pub crossings : kept ≡ all_crossings matched saw
