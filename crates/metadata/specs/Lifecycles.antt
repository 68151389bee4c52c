-- The numbers of a node's lifecycles. Assumes nothing.
use Rattle.std.specs.Prelude.{ℕ, zero, suc, Option, Some, None}
use Rattle.metadata.specs.declared.lifecycle.NodeLifecycle.{NodeLifecycle}
use Rattle.metadata.specs.declared.lifecycle.NodeLifecycle.TheVariants as L

-- "Lifecycles: 0 Active, 1 Draining, 2 Decommissioning, 3 Decommissioned, 4 Tombstoned"
abbrev pub active : ℕ
active = 0

abbrev pub draining : ℕ
draining = 1

abbrev pub decommissioning : ℕ
decommissioning = 2

abbrev pub decommissioned : ℕ
decommissioned = 3

abbrev pub tombstoned : ℕ
tombstoned = 4

-- "15 with from 5 if not Active": where a node that is new comes from
abbrev pub unregistered : ℕ
unregistered = 5

abbrev pub number : NodeLifecycle → ℕ
number L.Active = active
number L.Draining = draining
number L.Decommissioning = decommissioning
number L.Decommissioned = decommissioned
number L.Tombstoned = tombstoned

-- the lifecycle with this number, none above 4
abbrev pub lifecycle_of : ℕ → Option NodeLifecycle
lifecycle_of zero = Some L.Active
lifecycle_of (suc zero) = Some L.Draining
lifecycle_of (suc (suc zero)) = Some L.Decommissioning
lifecycle_of (suc (suc (suc zero))) = Some L.Decommissioned
lifecycle_of (suc (suc (suc (suc zero)))) = Some L.Tombstoned
lifecycle_of (suc (suc (suc (suc (suc n))))) = None
