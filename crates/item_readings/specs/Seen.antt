-- What an answer of the code stands for.
use Rattle.tree_data.specs.Heads.{heading_of}
use Rattle.tree_data.specs.Stated.{stmt_of}
use Rattle.tree_data.specs.Statements.{Statement}
use Rattle.tree_data.specs.Trees.{Heading}
use Rattle.item_readings.specs.declared.readings.HeadReading.{HeadReading}
use Rattle.item_readings.specs.declared.readings.HeadReading.TheVariants as of_head
use Rattle.item_readings.specs.declared.readings.BodyReading.{BodyReading}
use Rattle.item_readings.specs.declared.readings.BodyReading.TheVariants as of_body
use Rattle.item_readings.specs.Readings.{Reading, Tree, Refused}

abbrev pub head_seen : HeadReading → Reading Heading
head_seen (of_head.Tree h) = Tree (heading_of h)
head_seen (of_head.Refused f) = Refused f.rule f.at

abbrev pub body_seen : BodyReading → Reading Statement
body_seen (of_body.Tree s) = Tree (stmt_of s)
body_seen (of_body.Refused f) = Refused f.rule f.at
