-- What a packet holds, as sets of rights on objects.
use Rattle.policy.specs.declared.object.Object.{Object}
use Rattle.policy.specs.declared.rights.Rights.{Rights}
use Rattle.policy.specs.Rights.{set_of}
use Rattle.core_model.specs.Holds.{ObjectRight}

-- the set of a right that is held
abbrev pub as_rights : ObjectRight → Object × Rights
as_rights h = (h.0, set_of h.1)
