pub mod MarkedPass
