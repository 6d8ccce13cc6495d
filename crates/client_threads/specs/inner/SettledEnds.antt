-- Where settled parts end.
use Rattle.std.specs.Prelude.{◌≡◌, List, [], ◌∷◌, ◌++◌, Option, Some, None}
use Rattle.core_model.specs.History.{Part}
use Rattle.core_model.specs.Rotation.{LeadTo}

-- this is the last of them, if there is one; the others lead to where it begins
abbrev pub EndIn : List Part → Option Part → Type 0
EndIn parts None = parts ≡ []
EndIn parts (Some last) = (earlier : List Part) × (parts ≡ earlier ++ last ∷ []) × LeadTo earlier last.start
