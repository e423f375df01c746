pub mod FrontsOfBytes
