-- Rights on an object that pass a test.
use Rattle.std.specs.Prelude.{Bool, List, filter, map}
use Rattle.policy.specs.declared.object.Object.{Object}
use Rattle.policy.specs.declared.rights.Right.{Right}
use Rattle.policy.specs.declared.rights.Rights.{Rights}
use Rattle.packet_processor.specs.Holding.{as_rights}

-- those of some rights on an object that pass a test, each as a set
abbrev pub rights_passing : (Right → Bool) → Object → List Right → List (Object × Rights)
rights_passing test on rights = map as_rights (map (λ right. (on, right)) (filter test rights))
