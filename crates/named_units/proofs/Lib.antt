pub mod NamedUnits
