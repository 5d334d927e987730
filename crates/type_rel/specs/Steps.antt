-- What the code keeps of a member that was laid.
use Rattle.type_rel.specs.declared.placement.Step.{Step}
use Rattle.type_rel.specs.Layout

abbrev pub step_of : Step → Layout.Step
step_of s = record { begins = s.begins; at = s.at; align = s.align }
