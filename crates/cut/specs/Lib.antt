pub mod Run
pub mod Vsync
pub mod AnyRun
pub mod Room
pub mod Retried
pub mod Demand
pub mod Mended
pub mod Within
