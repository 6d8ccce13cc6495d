-- Listings: all objects, and those of them on which there is a right.
use Rattle.std.specs.Prelude.{ℕ, Bool, List, map, filter, ◌++◌}
use Rattle.std.specs.List.{list_any, range_with_len}
use Rattle.policy.specs.declared.object.Kind.{Kind}
use Rattle.policy.specs.declared.object.Kind.TheVariants as kind
use Rattle.policy.specs.declared.object.Object.{Object}
use Rattle.policy.specs.declared.rights.Right.{Right}
use Rattle.policy.specs.declared.rights.Rights.{Rights}
use Rattle.policy.specs.Object.{object_of}
use Rattle.policy.specs.Rights.{all_rights, rights_that}

-- the objects of a kind, by number, where so many of each kind are declared
abbrev pub objects_of_kind : (Kind → ℕ) → Kind → List Object
objects_of_kind count kind = map (object_of kind) (range_with_len 1 (count kind))

-- all objects: agents, regions, signals and kernels, each kind by number
abbrev pub all_objects : (Kind → ℕ) → List Object
all_objects count =
    objects_of_kind count kind.Agent ++ objects_of_kind count kind.Region ++ objects_of_kind count kind.Signal ++ objects_of_kind count kind.Kernel

-- of these objects, those on which there is a right, with these rights
unfoldable pub listing_by : (Object → Right → Bool) → List Object → List (Object × Rights)
listing_by has_right objects = map (λ on. (on, rights_that (has_right on))) (filter (λ on. list_any (has_right on) all_rights) objects)
