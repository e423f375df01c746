pub mod LayersOfNumbers
pub mod SupertypesByLayers
pub mod ArraysOfNumbers
pub mod NumberedEntries
pub mod HeadersOfNumbers
pub mod ErasuresByLayers
