-- Why a call of the store was refused, and why a file of the configuration, or the sources, were not read.
use Rattle.std.specs.Prelude.{ℕ, ◌≤◌, Result, IsErrOf}
use Rattle.apt_outside.specs.Count.{Rose}
use Rattle.apt_outside.specs.declared.fault.Fault.{Fault}
use Rattle.apt_outside.specs.declared.fault.Fault.TheVariants as outside
use Rattle.tree_store.specs.declared.fault.StoreFault.{StoreFault}
use Rattle.tree_store.specs.declared.fault.StoreFault.TheVariants.{Failed, Memory}
use Rattle.tree_store.specs.declared.fault.ConfigReadFault.{ConfigReadFault}
use Rattle.tree_store.specs.declared.fault.ConfigReadFault.TheVariants as config
use Rattle.tree_store.specs.declared.fault.SourceReadFault.{SourceReadFault}
use Rattle.tree_store.specs.declared.fault.SourceReadFault.TheVariants as source

-- the tree's fault as the store's
abbrev pub as_store_fault : Fault → StoreFault
as_store_fault outside.Failed = Failed
as_store_fault outside.Memory = Memory

-- the tree's count never falls, and `Failed` is answered only where it rose
pub record HasStoreCause {T : Type 0} (before now : ℕ) (result : Result T StoreFault) : Type 0 where
  pub later : before ≤ now
  pub failed : IsErrOf result Failed → Rose before now

-- the tree's fault as that of reading the configuration
abbrev pub as_config_fault : Fault → ConfigReadFault
as_config_fault outside.Failed = config.Failed
as_config_fault outside.Memory = config.Memory

-- the same of a call that reads the configuration
pub record HasConfigCause {T : Type 0} (before now : ℕ) (result : Result T ConfigReadFault) : Type 0 where
  pub later : before ≤ now
  pub failed : IsErrOf result config.Failed → Rose before now

-- the tree's fault as that of reading the sources
abbrev pub as_source_fault : Fault → SourceReadFault
as_source_fault outside.Failed = source.Failed
as_source_fault outside.Memory = source.Memory

-- and of a call that reads them
pub record HasSourceCause {T : Type 0} (before now : ℕ) (result : Result T SourceReadFault) : Type 0 where
  pub later : before ≤ now
  pub failed : IsErrOf result source.Failed → Rose before now
